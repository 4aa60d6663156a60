-- What a person is told on standard error, in one line at most.
use Rattle.std.specs.Prelude.{◌⊎◌, ℕ, List, ◌++◌, [], map, codes, Option, Some, None, is_some, if◌then◌else◌, Result, Ok, Err, Vec}
use Rattle.std.specs.declared.alloc.Global.{Global}
use Rattle.page_names.specs.Names.{may_stand_in_name}
use Rattle.ixds_run.specs.declared.status.Status.{Status}
use Rattle.ixds_run.specs.declared.status.Status.TheVariants.{ReadFault, WriteFault, NoMemory}
use Rattle.ixds_files.specs.Causes.{cause_text}
use Rattle.ixds_files.specs.Writers.{AppendsFront}
use Rattle.ixds_files.specs.declared.cause.Cause.{Cause}
use Rattle.ixds_files.specs.declared.blamed.Blamed as blamed

-- what an object of the outside was asked for last, where that was kept, and why it failed, where it did
pub record Blame : Type 0 where
  pub name : Option (List ℕ)
  pub cause : Option Cause

abbrev pub blame : {P : Type 0} → blamed.Ghosts P → P → Blame
blame ghosts object = record { name = ghosts.name object; cause = ghosts.cause object }

-- a name as it is shown: each byte that no page's name may have as `?`, so that one line stays one
abbrev pub shown_byte : ℕ → ℕ
shown_byte b = if may_stand_in_name b then b else 63

abbrev pub shown : List ℕ → List ℕ
shown name = map shown_byte name

abbrev pub cause_mark : Option Cause → List ℕ
cause_mark None = []
cause_mark (Some cause) = codes ": " ++ cause_text cause

-- what can't be done, with which file, and why
unfoldable pub fault_line : List ℕ → List ℕ → Option Cause → List ℕ
fault_line act name cause = codes "ixds: cannot " ++ (act ++ (shown name ++ (cause_mark cause ++ codes "\n")))

abbrev pub no_memory_line : List ℕ
no_memory_line = codes "ixds: no memory is left\n"

-- a name that wasn't kept wasn't for want of memory
abbrev pub named_line : List ℕ → Option (List ℕ) → Option Cause → List ℕ
named_line act None cause = no_memory_line
named_line act (Some name) cause = fault_line act name cause

abbrev pub blame_line : List ℕ → Blame → List ℕ
blame_line act b = named_line act b.name b.cause

-- the targets are to blame where their last call failed, and else the text
abbrev pub write_blame : Blame → Blame → Blame
write_blame targets text = if is_some targets.cause then targets else text

-- the line for a status, by what the pages, the targets and the text were asked for last
abbrev pub complaint : Status → Blame → Blame → Blame → Option (List ℕ)
complaint ReadFault pages targets text = Some (blame_line (codes "read ") pages)
complaint WriteFault pages targets text = Some (blame_line (codes "write ") (write_blame targets text))
complaint NoMemory pages targets text = Some no_memory_line
complaint s pages targets text = None

-- the line that is told: one that there was memory for, or that there is none
abbrev pub told_line : {E : Type 0} → Result (Vec ℕ Global) E → List ℕ
told_line (Ok line) = line.items
told_line (Err error) = no_memory_line

-- a front of a line was told, or where memory was wanting of the line for that
abbrev pub Tells : Option (List ℕ) → Option (List ℕ) → List ℕ → Type 0
Tells old new line = AppendsFront old new line ⊎ AppendsFront old new no_memory_line
