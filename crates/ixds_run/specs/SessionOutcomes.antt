-- What a session has due: a status, a text for `out`, and targets.
use Rattle.std.specs.Prelude.{◌≡◌, ℕ, List, [], ◌∷◌, ◌++◌, Some, None}
use Rattle.std.specs.List.{concat}
use Rattle.ix_base.specs.declared.rule.Rule.{Rule}
use Rattle.ix_base.specs.declared.rule.Rule.TheVariants.{X1}
use Rattle.page_session.specs.Course.{Course, breaks, course, ends, wants}
use Rattle.page_session.specs.HandedPages.{Handed, bytes_of, names_of}
use Rattle.page_session.specs.Script.{script_of}
use Rattle.page_session.specs.declared.script.Script.{Script}
use Rattle.page_session.specs.declared.script.Script.TheVariants.{Good, Bad}
use Rattle.ixds_run.specs.DueOutcomes.{AreReadBack, DueOutcome, due_of}
use Rattle.page_verdicts.specs.Texts.{breach_line}
use Rattle.page_verdicts.specs.Verdicts.{IsOfSet}
use Rattle.ixds_run.specs.declared.status.Status.TheVariants as status
use Rattle.page_verdicts.specs.declared.verdict.Verdict.{Verdict}

-- a rule that a script breaks, which is told at the start of a line; nothing else is due
abbrev pub broken_line : (script : List ℕ) → Rule → (start : ℕ) → DueOutcome
broken_line script rule start =
    record { status = status.Broken; text = breach_line (record { page = script; offset = start; rule = rule }); targets = [] }

-- the text that checking these pages gives
abbrev pub IsChecked : (base : List ℕ) → List Handed → List ℕ → Type 0
IsChecked base pages text = (v : Verdict) × IsOfSet base (names_of pages) (bytes_of pages) v × (text ≡ (due_of None None v).text)

-- the texts that checks of these pages give, in order, one for each
abbrev pub AreChecked : (base : List ℕ) → List (List Handed) → List (List ℕ) → Type 0
AreChecked base [] [] = Unit {0}
AreChecked base (pages ∷ checks) (text ∷ texts) = IsChecked base pages text × AreChecked base checks texts
AreChecked base checks texts = ⊥

-- a text in front of what is due
abbrev pub behind : List ℕ → DueOutcome → DueOutcome
behind front due = record due { text = front ++ due.text }

-- What extracting these pages gives, behind a text. The bytes of each target denote exactly the content that the pages mark for it.
pub record IsExtracted (base dir : List ℕ) (pages : List Handed) (front : List ℕ) (due : DueOutcome) : Type 0 where
  pub verdict : Verdict
  pub makes : IsOfSet base (names_of pages) (bytes_of pages) verdict
  pub due_is : due ≡ behind front (due_of (Some dir) None verdict)
  pub read_back : AreReadBack verdict

-- What the course of a script has due: the line of the rule that it breaks; else what extracting the last pages gives, behind the
-- texts of all checks. A course that wants the bytes of a page has nothing due.
abbrev pub IsCourseDue : (base dir script : List ℕ) → Course → DueOutcome → Type 0
IsCourseDue base dir script (breaks start rule) due = due ≡ broken_line script rule start
IsCourseDue base dir script (ends checks last) due =
    (texts : List (List ℕ)) × AreChecked base checks texts × IsExtracted base dir last (concat texts) due
IsCourseDue base dir script wants due = ⊥

-- the same of what a script says, where the pages of its put lines have these bytes
abbrev pub IsSaidDue : (base dir script : List ℕ) → Script → List (List ℕ) → DueOutcome → Type 0
IsSaidDue base dir script (Bad at) bs due = due ≡ broken_line script X1 at
IsSaidDue base dir script (Good lines) bs due = IsCourseDue base dir script (course lines bs) due

-- What is due from a session under this base and into this directory, whose script has this name and this text, and whose put lines
-- read pages with these bytes, in their order.
abbrev pub IsSession : (base dir script text : List ℕ) → List (List ℕ) → DueOutcome → Type 0
IsSession base dir script text bs due = IsSaidDue base dir script (script_of text) bs due
