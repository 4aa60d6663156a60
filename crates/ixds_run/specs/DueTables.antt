-- What is ready to be given, by the tables that hold it.
use Rattle.std.specs.Prelude.{◌≡◌, ℕ, Bool, true, false, List, [], map, Option, Some, None}
use Rattle.std.specs.List.{concat}
use Rattle.ix_base.specs.Outside.{Begun}
use Rattle.ixds_run.specs.declared.due.Due.{Due}
use Rattle.ixds_run.specs.declared.due.DueTarget.{DueTarget}
use Rattle.ixds_run.specs.declared.status.Status.{Status}
use Rattle.ixds_run.specs.declared.status.Status.TheVariants as status
use Rattle.command_words.specs.Commands.{dir_of}
use Rattle.command_words.specs.declared.command.Command.{Command}
use Rattle.ixds_run.specs.DueOutcomes.{DueOutcome, HasBreach, InstanceLines, IsOutcome}

-- a target that is ready to be written, as it stands when it is finished
abbrev pub ready : List ℕ → DueTarget → Begun
ready dir t = record { dir = dir; name = t.name; bytes = concat t.prepared; finished = true }

abbrev pub ready_under : Option (List ℕ) → List DueTarget → List Begun
ready_under None ts = []
ready_under (Some dir) ts = map (ready dir) ts

abbrev pub status_of : Bool → Status
status_of true = status.Broken
status_of false = status.Done

-- the targets that are ready to be written under this directory word, which are none without one
abbrev pub targets_due : Option (List ℕ) → Due → List Begun
targets_due dir due = ready_under dir due.targets.items

-- what is ready to be given
abbrev pub outcome_of : Option (List ℕ) → Due → DueOutcome
outcome_of dir due = record { status = status_of due.is_broken; text = due.text; targets = targets_due dir due }

abbrev pub ready_lines : DueTarget → InstanceLines
ready_lines t = record { name = t.name; lines = t.prepared }

-- What is ready is due from a command whose pages have these bytes; where they break a rule, no target is.
pub record IsDueFrom (c : Command) (bs : List (List ℕ)) (due : Due) : Type 0 where
  pub outcome : IsOutcome c bs (outcome_of (dir_of c) due)
  pub none : HasBreach c bs → due.targets.items ≡ []
