-- What a command has due: a status, a text for `out`, and targets.
use Rattle.std.specs.Prelude.{◌≡◌, ℕ, true, IsTrue, List, [], ◌∷◌, All, length, map, Option, Some, None, if◌then◌else◌}
use Rattle.std.specs.List.{concat, flat_map}
use Rattle.ix_base.specs.Forms.{is_empty}
use Rattle.ix_base.specs.Outside.{Begun}
use Rattle.instance_lines.specs.Canonical.{canon, canon_lines}
use Rattle.instance_out.specs.Theorem.{IsReadBack}
use Rattle.command_words.specs.Commands.{dir_of, number_of}
use Rattle.ixds_run.specs.Rearrangement.{IsRearranged}
use Rattle.page_verdicts.specs.Texts.{breach_line, sample_text, summary_of}
use Rattle.command_words.specs.declared.command.Command.{Command}
use Rattle.ixds_run.specs.declared.status.Status.{Status}
use Rattle.ixds_run.specs.declared.status.Status.TheVariants as status
use Rattle.page_verdicts.specs.Verdicts.{CommandMakes, is_report}
use Rattle.page_verdicts.specs.declared.verdict.Verdict.{Verdict}
use Rattle.page_verdicts.specs.declared.verdict.Verdict.TheVariants.{Reported, Extracted, Printed}
use Rattle.target_contents.specs.declared.outcome.Target.{Target}

-- what a command has due: a status, a text, and targets, each as it stands when it is finished
pub record DueOutcome : Type 0 where
  pub status : Status
  pub text : List ℕ
  pub targets : List Begun

-- a target under a directory word, with its instance, finished
abbrev pub whole_target : List ℕ → Target → Begun
whole_target dir t = record { dir = dir; name = t.name; bytes = canon t.content; finished = true }

-- the targets that are written, which are none without a directory
abbrev pub targets_under : Option (List ℕ) → List Target → List Begun
targets_under None ts = []
targets_under (Some dir) ts = map (whole_target dir) ts

-- a target by its name and the lines of its instance
pub record InstanceLines : Type 0 where
  pub name : List ℕ
  pub lines : List (List ℕ)

abbrev pub instance_lines : Target → InstanceLines
instance_lines t = record { name = t.name; lines = canon_lines t.content }

-- how many bytes the instance of the default target has, 0 where there is none
abbrev pub default_len : List InstanceLines → ℕ
default_len [] = 0
default_len (t ∷ ts) = if is_empty t.name then length (concat t.lines) else default_len ts

-- what is told of targets: their summary, of a sample with its number and the length of its instance
abbrev pub text_of : Option ℕ → List Target → List ℕ
text_of None ts = summary_of ts
text_of (Some number) ts = sample_text number (summary_of ts) (default_len (map instance_lines ts))

-- what is due of what pages come to, under this directory or none, and where this is the number of a sample
abbrev pub due_of : Option (List ℕ) → Option ℕ → Verdict → DueOutcome
due_of dir number (Reported report) = record { status = status.Broken; text = flat_map breach_line report.lines; targets = [] }
due_of dir number (Extracted ts) = record { status = status.Done; text = text_of number ts; targets = targets_under dir ts }
due_of dir number (Printed text) = record { status = status.Done; text = text; targets = [] }

-- The instance of each target is read back: its bytes have a tree that denotes the content of the target, and none that denotes
-- another.
abbrev pub AreReadBack : Verdict → Type 0
AreReadBack (Reported report) = Unit {0}
AreReadBack (Extracted ts) = All (λ t. IsReadBack (canon t.content) t.content) ts
AreReadBack (Printed text) = Unit {0}

-- this is due from a command whose pages have these bytes and come to this
pub record IsDue (verdict : Verdict) (c : Command) (bs : List (List ℕ)) (due : DueOutcome) : Type 0 where
  pub makes : CommandMakes c bs verdict
  pub due_is : due ≡ due_of (dir_of c) (number_of c) verdict

-- What is due from a command whose pages have these bytes: what is due of what they come to. It is due from the same command with its
-- pages in any other order, too: the same status, the same text, the same bytes of each target. The bytes of each target denote exactly
-- the content that the pages mark for it.
pub record IsOutcome (c : Command) (bs : List (List ℕ)) (due : DueOutcome) : Type 0 where
  pub verdict : Verdict
  pub is : IsDue verdict c bs due
  pub any_order : (d : Command) (cs : List (List ℕ)) → IsRearranged c bs d cs → IsDue verdict d cs due
  pub read_back : AreReadBack verdict

-- pages with these bytes break a rule, so that nothing of them is written
abbrev pub HasBreach : Command → List (List ℕ) → Type 0
HasBreach c bs = (v : Verdict) → CommandMakes c bs v → IsTrue (is_report v)
