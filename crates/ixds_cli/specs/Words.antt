-- The words of the command line, as the system hands them over: the program's name first.
use Rattle.std.specs.Prelude.{ℕ, List, [], drop, map, Option, Some, None, Result, Ok, Err, String, string_bytes}
use Rattle.std.specs.Option.{option_and_then}
use Rattle.std.specs.IoError.{error_kind}
use Rattle.std.specs.Vec.Iter.{into_iter_items}
use Rattle.std.specs.declared.alloc.Global.{Global}
use Rattle.std.specs.declared.io.Error.{Error}
use Rattle.std.specs.declared.io.ErrorKind.{ErrorKind}
use Rattle.std.specs.declared.io.ErrorKind.TheVariants.{InvalidData}
use Rattle.std.specs.declared.vec.IntoIter.{IntoIter}
use Rattle.command_words.specs.Commands as run
use Rattle.command_words.specs.declared.command.Command.{Command}

-- what stands for words that can't be had: where one isn't text no words, and else nothing, for want of memory
abbrev pub words_without : ErrorKind → Option (List (List ℕ))
words_without InvalidData = Some []
words_without _ = None

-- the words behind the program's name
abbrev pub words_in : Result (IntoIter (String Global) Global) Error → Option (List (List ℕ))
words_in (Ok all) = Some (drop 1 (map string_bytes (into_iter_items all)))
words_in (Err error) = words_without (error_kind error)

-- the command that they give, if any
abbrev pub command_in : Result (IntoIter (String Global) Global) Error → Option Command
command_in handed = option_and_then run.command_of (words_in handed)
