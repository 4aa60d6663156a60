-- Why a call of the system failed, as a person is told.
use Rattle.std.specs.Prelude.{ℕ, List, codes}
use Rattle.std.specs.declared.io.ErrorKind.{ErrorKind}
use Rattle.std.specs.declared.io.ErrorKind.TheVariants as kind
use Rattle.ixds_files.specs.declared.cause.Cause.{Cause}
use Rattle.ixds_files.specs.declared.cause.Cause.TheVariants.{Missing, Forbidden, Folder, NotFolder, PartsStand, Full, TooLarge, ReadOnly, LongName, Links, Unread, NoMemory, Other}

-- what each kind of error comes to
abbrev pub cause_of : ErrorKind → Cause
cause_of kind.NotFound = Missing
cause_of kind.PermissionDenied = Forbidden
cause_of kind.IsADirectory = Folder
cause_of kind.NotADirectory = NotFolder
cause_of kind.AlreadyExists = PartsStand
cause_of kind.StorageFull = Full
cause_of kind.QuotaExceeded = Full
cause_of kind.FileTooLarge = TooLarge
cause_of kind.ReadOnlyFilesystem = ReadOnly
cause_of kind.InvalidFilename = LongName
cause_of kind.FilesystemLoop = Links
cause_of kind.BrokenPipe = Unread
cause_of kind.OutOfMemory = NoMemory
cause_of k = Other

-- its words
abbrev pub cause_text : Cause → List ℕ
cause_text Missing = codes "there is no such file or folder"
cause_text Forbidden = codes "no permission"
cause_text Folder = codes "a folder stands there"
cause_text NotFolder = codes "a part of the path is no folder"
cause_text PartsStand = codes "too many parts stand beside it"
cause_text Full = codes "no space is left"
cause_text TooLarge = codes "the file is too large"
cause_text ReadOnly = codes "the file system is read-only"
cause_text LongName = codes "the name is too long"
cause_text Links = codes "too many links"
cause_text Unread = codes "nobody reads it"
cause_text NoMemory = codes "no memory is left"
cause_text Other = codes "the system refuses it"
