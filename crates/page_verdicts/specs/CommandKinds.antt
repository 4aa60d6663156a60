-- What a run does with a command, by its kind.
use Rattle.std.specs.Prelude.{ℕ, Bool, true, false, List}
use Rattle.command_words.specs.declared.command.Command.{Command}
use Rattle.command_words.specs.declared.command.Command.TheVariants.{Extract, Check, Sample, Plain, Trace, Session}

-- the same command over other pages, where it names pages; a plain page and a script stay what they are
abbrev pub with_pages : Command → List (List ℕ) → Command
with_pages (Extract base dir pages) others = Extract base dir others
with_pages (Check base pages) others = Check base others
with_pages (Sample number) others = Sample number
with_pages (Plain page) others = Plain page
with_pages (Trace base pages) others = Trace base others
with_pages (Session base dir script) others = Session base dir script

-- a command for which the bytes of pages are kept as they are read
abbrev pub keeps_pages : Command → Bool
keeps_pages (Extract base dir pages) = false
keeps_pages (Check base pages) = false
keeps_pages (Sample number) = false
keeps_pages (Plain page) = false
keeps_pages (Trace base pages) = true
keeps_pages (Session base dir script) = false

-- a command that follows a script
abbrev pub is_session : Command → Bool
is_session (Extract base dir pages) = false
is_session (Check base pages) = false
is_session (Sample number) = false
is_session (Plain page) = false
is_session (Trace base pages) = false
is_session (Session base dir script) = true
