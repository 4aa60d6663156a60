-- A session that follows the lines of a script.
use Rattle.std.specs.Prelude.{◌≡◌, ℕ, ◌≤◌, ◌<◌, All, true, false, IsTrue, List, [], ◌∷◌, ◌++◌, length}
use Rattle.std.specs.Prelude.{Option, Some, None, IfSome, option_map, Result, Ok, Err, IfOk, IfErr, OnOk}
use Rattle.std.specs.List.{concat, list_any}
use Rattle.ix_base.specs.declared.NoMemory.{NoMemory}
use Rattle.ix_base.specs.declared.limits.TheConstants.{LONGEST_NAME, MOST_BYTES_PUT}
use Rattle.page_session.specs.Course.{AreTold, Course, Standing, StandsAs, course, course_from, names_read, names_read_from, with_check}
use Rattle.page_session.specs.HandedPages.{Handed}
use Rattle.page_session.specs.Script.{is_extract}
use Rattle.page_session.specs.Sessions.{IsWithin, base_of}
use Rattle.page_session.specs.Sources.{IsTelling, Source, told}
use Rattle.page_session.specs.declared.script.Line.{Line}
use Rattle.page_session.specs.declared.script.Line.TheVariants as line
use Rattle.page_session.specs.declared.script.ScriptLine.{ScriptLine}
use Rattle.page_session.specs.declared.session.Session.{Session}
use Rattle.targets.specs.Breaches.{bytes_in}
use Rattle.ixds_run.specs.DueTables.{outcome_of}
use Rattle.page_verdicts.specs.Gains.{GainsStarts}
use Rattle.page_verdicts.specs.PageReads.{IsAmong}
use Rattle.ixds_run.specs.SessionBytes.{OfScript, to_read}
use Rattle.ixds_run.specs.SessionOutcomes.{AreChecked, IsCourseDue, IsSession}
use Rattle.page_verdicts.specs.Texts.{cannot_read_line}
use Rattle.ixds_run.specs.declared.due.Due.{Due}
use Rattle.page_verdicts.specs.declared.read_pages.Stopped.{Stopped}
use Rattle.page_verdicts.specs.declared.read_pages.Stopped.TheVariants as stopped

-- the name of a page that a line puts isn't too long for a source
abbrev pub IsShort : Line → Type 0
IsShort (line.Put name) = length name ≤ LONGEST_NAME
IsShort (line.Drop name) = Unit {0}
IsShort line.Check = Unit {0}
IsShort line.Extract = Unit {0}

-- lines as a script has them: no name is too long, and an extract is among them
pub record AreLines (lines : List ScriptLine) : Type 0 where
  pub short : All (λ l. IsShort l.line) lines
  pub extract : list_any (λ l. is_extract l.line) lines ≡ true

-- a course with checks of these pages in front of it
abbrev pub with_checks : List (List Handed) → Course → Course
with_checks [] c = c
with_checks (pages ∷ checks) c = with_check pages (with_checks checks c)

-- names that were added to the starts of a source
abbrev pub Started : List (List ℕ) → Option (List (List ℕ)) → Option (List (List ℕ)) → Type 0
Started names old new = new ≡ option_map (λ starts. starts ++ names) old

-- Of these lines all up to the rest were followed. Pages with these bytes were put, and the session stands as the course does. The
-- text is that of all checks so far.
pub record HasFollowed (page : List ℕ → Option (List ℕ)) (base : List ℕ) (lines rest : List ScriptLine)
    (before now : Option (List (List ℕ))) (s : Session) (text : List ℕ) : Type 0 where
  pub bs : List (List ℕ)
  pub names : List (List ℕ)
  pub standing : Standing
  pub checks : List (List Handed)
  pub texts : List (List ℕ)
  pub course_is : (more : List (List ℕ)) → course lines (bs ++ more) ≡ with_checks checks (course_from rest standing more)
  pub names_are : (more : List (List ℕ)) → names_read lines (bs ++ more) ≡ names ++ names_read_from rest standing more
  pub count : length names ≡ length bs
  pub told_are : AreTold page names bs
  pub telling : IsTelling page names
  pub starts : Started names before now
  pub stands : StandsAs s standing
  pub base_is : base_of s ≡ base
  pub sum : standing.bytes ≡ bytes_in bs
  pub within : IsWithin s
  pub checked : AreChecked base checks texts
  pub text_is : text ≡ concat texts

-- a fact of the bytes of the first pages that these lines read, which are those that the source tells, where it tells them
abbrev pub OfLines : (List ℕ → Option (List ℕ)) → List ScriptLine → (List (List ℕ) → Type 0) → Type 0
OfLines page lines fact = (bs : List (List ℕ)) × AreTold page (names_read lines bs) bs × fact bs

-- what is ready is due from the course of these lines, and all pages that they read were asked for
pub record IsEnded (base script : List ℕ) (lines : List ScriptLine) (before now : Option (List (List ℕ))) (due : Due)
    (bs : List (List ℕ)) : Type 0 where
  pub due_is : (dir : List ℕ) → IsCourseDue base dir script (course lines bs) (outcome_of (Some dir) due)
  pub starts : Started (names_read lines bs) before now

-- The page that was asked for last is the last of these. Those before it, where the source tells them, don't have more bytes than
-- a session may put; and a source that tells any page tells them.
pub record IsLastPut (page : List ℕ → Option (List ℕ)) (names : List (List ℕ)) (asked : Option (List ℕ)) (name : List ℕ) : Type 0 where
  pub front : List (List ℕ)
  pub splits : names ≡ front ++ name ∷ []
  pub asked_is : IfSome asked (λ n. n ≡ name)
  pub within : IfSome (told page front) (λ bs. bytes_in bs ≤ MOST_BYTES_PUT)
  pub telling : IsTelling page front

-- why following lines ended before their end: a page can't be read, which the last call told, and the line names it, or memory was
-- wanted
abbrev pub WhyUnfollowed : List ScriptLine → (old new : Source) → Stopped → Type 0
WhyUnfollowed lines old new (stopped.Failed line) = (old.faults < new.faults)
    × OfLines old.page lines (λ bs. (name : List ℕ) × IsLastPut old.page (names_read lines bs) new.asked name
    × (line.items ≡ cannot_read_line name) × IsTrue new.failed)
WhyUnfollowed lines old new stopped.NoMemory = new.faults ≡ old.faults

-- what following a line leads to: to the lines behind it, or to the end
abbrev pub Leads : (next : Type 0) → (Due → Type 0) → Option Due → Type 0
Leads next end None = next
Leads next end (Some due) = end due

-- where a rule is broken no target is due
abbrev pub IsSilent : Due → Type 0
IsSilent due = due.is_broken ≡ true → due.targets.items ≡ []

-- a fact of all lines of which those in front of this one were followed, under this base and since these starts
abbrev pub OnLines : (page : List ℕ → Option (List ℕ)) → ScriptLine → (now : Option (List (List ℕ))) → Session → (text : List ℕ)
    → ((base : List ℕ) → (lines rest : List ScriptLine) → (before : Option (List (List ℕ))) → Type 0) → Type 0
OnLines page l now s text fact = (base : List ℕ) (lines rest : List ScriptLine) (before : Option (List (List ℕ)))
    → HasFollowed page base lines (l ∷ rest) before now s text → fact base lines rest before

-- This line was followed, behind those in front of it.
pub record IsLineFollowed (script : List ℕ) (l : ScriptLine) (old new : Source) (s s' : Session) (text text' : List ℕ)
    (result : Result (Option Due) Stopped) : Type 0 where
  pub leads : IfOk result (λ o. OnLines old.page l old.starts s text (λ base lines rest before.
      Leads (HasFollowed old.page base lines rest before new.starts s' text')
      (λ due. OfLines old.page lines (IsEnded base script lines before new.starts due)) o))
  pub on : IfOk result (λ o. o ≡ None → is_extract l.line ≡ false)
  pub silent : IfOk result (λ o. IfSome o IsSilent)
  pub starts : OnLines old.page l old.starts s text (λ base lines rest before.
      OfLines old.page lines (λ bs. GainsStarts (names_read lines bs) before new.starts))
  pub ok : OnOk result (new.faults ≡ old.faults)
  pub stopped : IfErr result (λ why. OnLines old.page l old.starts s text (λ base lines rest before. WhyUnfollowed lines old new why))

-- Why a session ended before its end: the script or a page that it reads can't be read, which the last call told, and the line names
-- it, or memory was wanted.
abbrev pub WhyUnread : (script : List ℕ) → (old new : Source) → Stopped → Type 0
WhyUnread script old new (stopped.Failed line) = (old.faults < new.faults)
    × OfScript old.page script (λ text bs. (name : List ℕ) × IsAmong old.page (to_read script text bs) new.asked name
    × (line.items ≡ cannot_read_line name) × IsTrue new.failed)
WhyUnread script old new stopped.NoMemory = new.faults ≡ old.faults

-- A script was read and followed to its end, or why it wasn't, and what its source then tells.
pub record IsFollowed (base script : List ℕ) (old new : Source) (result : Result Due Stopped) : Type 0 where
  pub due : IfOk result (λ due. OfScript old.page script (λ text bs. (dir : List ℕ)
      → IsSession base dir script text bs (outcome_of (Some dir) due)))
  pub silent : IfOk result IsSilent
  pub all_starts : OnOk result (OfScript old.page script (λ text bs. Started (to_read script text bs) old.starts new.starts))
  pub starts : OfScript old.page script (λ text bs. GainsStarts (to_read script text bs) old.starts new.starts)
  pub ok : OnOk result (new.faults ≡ old.faults)
  pub stopped : IfErr result (WhyUnread script old new)
  pub pages : new.page ≡ old.page
  pub numbers : new.numbers ≡ old.numbers

-- the end of following, or want of memory
abbrev pub ended : Result Due NoMemory → Result (Option Due) Stopped
ended (Ok due) = Ok (Some due)
ended (Err e) = Err stopped.NoMemory
