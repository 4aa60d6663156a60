-- What a run answers to a session: each status, when it comes, and what then stands.
use Rattle.std.specs.Prelude.{◌≡◌, ◌⊎◌, ℕ, ◌<◌, ◌≤◌, IsTrue, List, ◌++◌, Option, Some, None, option_map}
use Rattle.ix_base.specs.Outside.{TextGainsFront}
use Rattle.ixds_run.specs.Answers.{Answers, Outside}
use Rattle.ixds_run.specs.DueOutcomes.{DueOutcome}
use Rattle.page_verdicts.specs.Gains.{GainsAll, GainsPart, GainsStarts, GainsText}
use Rattle.page_verdicts.specs.PageReads.{IsAmong}
use Rattle.ixds_run.specs.SessionBytes.{OfScript, to_read}
use Rattle.ixds_run.specs.SessionOutcomes.{IsSession}
use Rattle.page_verdicts.specs.Texts.{cannot_read_line}
use Rattle.command_words.specs.declared.command.Command.{Command}
use Rattle.command_words.specs.declared.command.Command.TheVariants.{Session}
use Rattle.ixds_run.specs.declared.status.Status.{Status}
use Rattle.ixds_run.specs.declared.status.Status.TheVariants.{Done, Broken, Usage, ReadFault, WriteFault, NoMemory}

-- A session: the base that links are joined to, the directory, and the name of the script.
pub record Following : Type 0 where
  pub base : List ℕ
  pub dir : List ℕ
  pub script : List ℕ

-- something is due from a session and is so, where its script has this text and reads pages with these bytes
abbrev pub IsDueSo : Following → (DueOutcome → Type 0) → (text : List ℕ) → List (List ℕ) → Type 0
IsDueSo f so text bs = (due : DueOutcome) × IsSession f.base f.dir f.script text bs due × so due

-- what is due with this status was given, all of it
abbrev pub SessionGives : Following → Status → (old new : Outside) → (text : List ℕ) → List (List ℕ) → Type 0
SessionGives f status old new text bs = IsDueSo f (λ due. (due.status ≡ status)
    × GainsAll due.targets old.targets new.targets × GainsText due.text old.taken new.taken) text bs

-- the script breaks a rule, or the pages that are there at its end do
abbrev pub HasSessionBreach : Following → (text : List ℕ) → List (List ℕ) → Type 0
HasSessionBreach f text bs = (due : DueOutcome) → IsSession f.base f.dir f.script text bs due → due.status ≡ Broken

-- one of the pages to be read can't be read, which was asked for last and which the last call told, and its line is added to the text
abbrev pub TellsUnread : Following → (old new : Outside) → (Gains : List ℕ → Option (List ℕ) → Option (List ℕ) → Type 0) → Type 0
TellsUnread f old new Gains = OfScript old.page f.script (λ text bs. (name : List ℕ)
    × IsAmong old.page (to_read f.script text bs) new.page_asked name × IsTrue new.page_failed
    × Gains (cannot_read_line name) old.taken new.taken)

-- What a run answers to a session, and what its three objects then tell. The two facts say of the targets and the text that they are
-- as they were.
pub record SessionAnswers (f : Following) (old new : Outside) (SameTargets SameText : Type 0) (s : Status) : Type 0 where
  -- Where no count of faults rose, all that is due is given, with its status; or memory is wanted, and both sinks are untouched.
  pub complete : new.page_faults ≡ old.page_faults → new.target_faults ≡ old.target_faults → new.text_faults ≡ old.text_faults
      → OfScript old.page f.script (SessionGives f s old new) ⊎ ((s ≡ NoMemory) × SameTargets × SameText)
  -- Done: no rule is broken, the targets are written whole, and then the texts of the checks and the summary.
  pub done : s ≡ Done → OfScript old.page f.script (SessionGives f Done old new)
  -- Broken: the script or its last pages break a rule, and the text took what is due. Then no target is begun, whatever the status.
  pub broken : s ≡ Broken → OfScript old.page f.script (SessionGives f Broken old new)
  pub broken_targets : s ≡ Broken → SameTargets
  pub broken_pages : OfScript old.page f.script (λ text bs. HasSessionBreach f text bs → SameTargets)
  -- The words give a command.
  pub usage : s ≡ Usage → ⊥
  -- ReadFault: the count of the pages rose in this call. The line names the page that was asked for last: the script, or a page that it
  -- reads.
  pub read_fault : s ≡ ReadFault → (old.page_faults < new.page_faults) × SameTargets × TellsUnread f old new GainsText
  -- WriteFault: the count of the targets or of the text rose in this call, and the last call of these failed. Of what was due a part
  -- stands: where the count of the targets rose, a part of them, and the first that isn't whole was asked for last; else, all of them
  -- and a front of the text, which after a read fault is its line.
  pub write_fault : s ≡ WriteFault → (old.target_faults < new.target_faults) ⊎ (old.text_faults < new.text_faults)
  pub write_fault_last : s ≡ WriteFault → old.target_faults < new.target_faults → IsTrue new.target_failed
  pub write_fault_last_text : s ≡ WriteFault → new.target_faults ≡ old.target_faults → IsTrue new.text_failed
  pub write_fault_targets : s ≡ WriteFault → old.target_faults < new.target_faults
      → SameText × OfScript old.page f.script (IsDueSo f (λ due. GainsPart due.targets old.targets new.targets new.target_asked))
  pub write_fault_text : s ≡ WriteFault → new.target_faults ≡ old.target_faults → new.page_faults ≡ old.page_faults
      → OfScript old.page f.script (IsDueSo f (λ due. GainsAll due.targets old.targets new.targets
      × TextGainsFront due.text old.taken new.taken))
  pub write_fault_line : s ≡ WriteFault → old.page_faults < new.page_faults → SameTargets × TellsUnread f old new TextGainsFront
  -- NoMemory leaves both sinks, and hides no read fault.
  pub no_memory : s ≡ NoMemory → SameTargets × SameText
  pub no_memory_pages : s ≡ NoMemory → new.page_faults ≡ old.page_faults
  -- The pages to be read are asked for in their order, each once for its line; all of them, where the session comes to its end. What the
  -- source tells of its pages stays, and the count of its faults doesn't fall.
  pub starts : OfScript old.page f.script (λ text bs. GainsStarts (to_read f.script text bs) old.page_starts new.page_starts)
  pub all_starts : (s ≡ Done) ⊎ (s ≡ Broken) → OfScript old.page f.script (λ text bs.
      new.page_starts ≡ option_map (λ starts. starts ++ to_read f.script text bs) old.page_starts)
  pub same_pages : new.page ≡ old.page
  pub page_count : old.page_faults ≤ new.page_faults
  -- The numbers by which the three objects were made stay.
  pub same_numbers : (new.page_numbers ≡ old.page_numbers) × (new.target_numbers ≡ old.target_numbers) × (new.text_numbers ≡ old.text_numbers)
  -- A failed call ends the run: each other status comes with no fault but its own.
  pub quiet_done : s ≡ Done → (new.page_faults ≡ old.page_faults)
      × (new.target_faults ≡ old.target_faults) × (new.text_faults ≡ old.text_faults)
  pub quiet_broken : s ≡ Broken → (new.page_faults ≡ old.page_faults)
      × (new.target_faults ≡ old.target_faults) × (new.text_faults ≡ old.text_faults)
  pub quiet_text : s ≡ ReadFault → new.text_faults ≡ old.text_faults

-- what a run answers to words that give this command or none
abbrev pub Answered : Option Command → (old new : Outside) → (SamePages SameTargets SameText : Type 0) → Status → Type 0
Answered None old new SamePages SameTargets SameText s = Answers None old new SamePages SameTargets SameText s
Answered (Some (Session base dir script)) old new SamePages SameTargets SameText s =
    SessionAnswers (record { base = base; dir = dir; script = script }) old new SameTargets SameText s
Answered (Some c) old new SamePages SameTargets SameText s = Answers (Some c) old new SamePages SameTargets SameText s
