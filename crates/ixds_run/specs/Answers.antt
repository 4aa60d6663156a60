-- What a run answers: each status, when it comes, and what then stands.
use Rattle.std.specs.Prelude.{◌≡◌, ◌⊎◌, ℕ, ◌<◌, ◌≤◌, Bool, IsTrue, List, Option, None, IfSome}
use Rattle.ix_base.specs.Outside.{Begun, TextGainsFront}
use Rattle.ix_base.specs.declared.outside.PageSource as source
use Rattle.ix_base.specs.declared.outside.TargetSink as sink
use Rattle.ix_base.specs.declared.outside.TextSink as text
use Rattle.command_words.specs.Commands.{dir_of, number_of, pages_of}
use Rattle.page_verdicts.specs.Gains.{GainsStarts, GainsText, Words, words_asked}
use Rattle.ixds_run.specs.Deliveries.{Gives, GivesFront, GivesPart}
use Rattle.page_verdicts.specs.CommandBytes.{IfTold, OfBytes}
use Rattle.ixds_run.specs.DueOutcomes.{HasBreach}
use Rattle.page_verdicts.specs.PageReads.{IsAmong, StopsInTime}
use Rattle.page_verdicts.specs.Texts.{cannot_read_line, usage_text}
use Rattle.command_words.specs.declared.command.Command.{Command}
use Rattle.ixds_run.specs.declared.status.Status.{Status}
use Rattle.ixds_run.specs.declared.status.Status.TheVariants.{Done, Broken, Usage, ReadFault, WriteFault, NoMemory}

-- what the pages, the targets and the text of the outside tell, at one time
pub record Outside : Type 0 where
  -- the bytes of each page by its name, what is left of the started one, the name asked for last, the names of all starts, how
  -- often a call failed, whether the last one did, and the numbers by which the source was made
  pub page : List ℕ → Option (List ℕ)
  pub left : Option (List ℕ)
  pub page_asked : Option (List ℕ)
  pub page_starts : Option (List (List ℕ))
  pub page_faults : ℕ
  pub page_failed : Bool
  pub page_numbers : List ℕ
  -- the targets begun, the two words asked for last, how often a call failed, whether the last one did, and its numbers
  pub targets : Option (List Begun)
  pub target_asked : Words
  pub target_faults : ℕ
  pub target_failed : Bool
  pub target_numbers : List ℕ
  -- the bytes that the text has taken, how often a call failed, whether the last one did, and its numbers
  pub taken : Option (List ℕ)
  pub text_faults : ℕ
  pub text_failed : Bool
  pub text_numbers : List ℕ

-- what three objects tell
abbrev pub outside : {P S T : Type 0} → source.Ghosts P → sink.Ghosts S → text.Ghosts T → P → S → T → Outside
outside source sink text p s t = record {
  page = source.page p;
  left = source.left p;
  page_asked = source.asked p;
  page_starts = source.starts p;
  page_faults = source.faults p;
  page_failed = source.last_failed p;
  page_numbers = source.numbers p;
  targets = sink.targets s;
  target_asked = words_asked sink s;
  target_faults = sink.faults s;
  target_failed = sink.last_failed s;
  target_numbers = sink.numbers s;
  taken = text.taken t;
  text_faults = text.faults t;
  text_failed = text.last_failed t;
  text_numbers = text.numbers t;
}

-- one of these pages can't be read, which was asked for last and which the last call told, and its line is added to the text
abbrev pub TellsFault : Outside → Outside → (Gains : List ℕ → Option (List ℕ) → Option (List ℕ) → Type 0) → Command → Type 0
TellsFault old new Gains c =
    (name : List ℕ) × IsAmong old.page (pages_of c) new.page_asked name × IsTrue new.page_failed
    × Gains (cannot_read_line name) old.taken new.taken

-- What a run answers to a command, or to words that give none, and what its three objects then tell. The three facts say
-- of the pages, the targets and the text that they are as they were.
pub record Answers (command : Option Command) (old new : Outside) (SamePages SameTargets SameText : Type 0) (s : Status) : Type 0 where
  -- Where the words give a command, the source tells the bytes of its pages and no count of faults rose, all that is due is
  -- given, with its status; or memory is wanted, and both sinks are untouched.
  pub complete : IfTold command old.page (λ c bs.
      new.page_faults ≡ old.page_faults → new.target_faults ≡ old.target_faults → new.text_faults ≡ old.text_faults
      → Gives s old.targets new.targets old.taken new.taken c bs ⊎ ((s ≡ NoMemory) × SameTargets × SameText))
  -- Done: the pages break no rule, the targets are written whole, and then the summary.
  pub done : s ≡ Done → OfBytes command old.page (Gives Done old.targets new.targets old.taken new.taken)
  -- Broken: the pages break a rule, and the text took the report. For such pages no target is begun, whatever the status.
  pub broken : s ≡ Broken → OfBytes command old.page (Gives Broken old.targets new.targets old.taken new.taken)
  pub broken_targets : s ≡ Broken → SameTargets
  pub broken_pages : IfTold command old.page (λ c bs. HasBreach c bs → SameTargets)
  -- A command without a directory leaves the targets, whatever the status.
  pub check : IfSome command (λ c. dir_of c ≡ None → SameTargets)
  -- A sample, whose pages are made, leaves the pages of the outside, too.
  pub sample : IfSome command (λ c. IfSome (number_of c) (λ n. SamePages))
  -- Usage: the words give no command, and then no other status comes but for a failed put and want of memory.
  pub usage : s ≡ Usage → (command ≡ None) × SamePages × SameTargets × GainsText usage_text old.taken new.taken
  pub usage_exactly : command ≡ None → (s ≡ Usage) ⊎ ((s ≡ WriteFault) ⊎ (s ≡ NoMemory))
  -- ReadFault: the count of the pages rose in this call. The line names the page that was asked for last.
  pub read_fault : s ≡ ReadFault
      → (old.page_faults < new.page_faults) × SameTargets × IfSome command (TellsFault old new GainsText)
  -- WriteFault: the count of the targets or of the text rose in this call, and the last call of these failed. Of what was due a part stands: where the count of
  -- the targets rose, a part of them, and the first that isn't whole was asked for last; else, all of them and a front of the
  -- text, which after a read fault is its line and without a command the usage text.
  pub write_fault : s ≡ WriteFault → (old.target_faults < new.target_faults) ⊎ (old.text_faults < new.text_faults)
  pub write_fault_last : s ≡ WriteFault → old.target_faults < new.target_faults → IsTrue new.target_failed
  pub write_fault_last_text : s ≡ WriteFault → new.target_faults ≡ old.target_faults → IsTrue new.text_failed
  pub write_fault_targets : s ≡ WriteFault → old.target_faults < new.target_faults
      → SameText × OfBytes command old.page (GivesPart old.targets new.targets new.target_asked)
  pub write_fault_text : s ≡ WriteFault → new.target_faults ≡ old.target_faults → new.page_faults ≡ old.page_faults
      → OfBytes command old.page (GivesFront old.targets new.targets old.taken new.taken)
  pub write_fault_line : s ≡ WriteFault → old.page_faults < new.page_faults
      → SameTargets × IfSome command (TellsFault old new TextGainsFront)
  pub write_fault_usage : s ≡ WriteFault → command ≡ None
      → SamePages × SameTargets × TextGainsFront usage_text old.taken new.taken
  -- NoMemory leaves both sinks, and hides no read fault.
  pub no_memory : s ≡ NoMemory → SameTargets × SameText
  pub no_memory_pages : s ≡ NoMemory → new.page_faults ≡ old.page_faults
  -- The pages are asked for in the order of the words, each once. The one that was asked for last is one of the command's,
  -- after pages that are within the limit; and reading stops in time. What the source tells of its pages stays, and the count of
  -- its faults doesn't fall.
  pub starts : IfSome command (λ c. GainsStarts (pages_of c) old.page_starts new.page_starts)
  pub asked_page : IfSome command (λ c. SamePages ⊎ ((name : List ℕ) × IsAmong old.page (pages_of c) new.page_asked name))
  pub same_pages : new.page ≡ old.page
  pub page_count : old.page_faults ≤ new.page_faults
  -- The numbers by which the three objects were made stay.
  pub same_numbers : (new.page_numbers ≡ old.page_numbers) × (new.target_numbers ≡ old.target_numbers) × (new.text_numbers ≡ old.text_numbers)
  pub stops : (s ≡ Done) ⊎ (s ≡ Broken)
      → IfSome command (λ c. number_of c ≡ None → StopsInTime old.page (pages_of c) new.left new.page_asked)
  -- A failed call ends the run: each other status comes with no fault but its own.
  pub quiet_done : s ≡ Done → (new.page_faults ≡ old.page_faults)
      × (new.target_faults ≡ old.target_faults) × (new.text_faults ≡ old.text_faults)
  pub quiet_broken : s ≡ Broken → (new.page_faults ≡ old.page_faults)
      × (new.target_faults ≡ old.target_faults) × (new.text_faults ≡ old.text_faults)
  pub quiet_text : (s ≡ Usage) ⊎ (s ≡ ReadFault) → new.text_faults ≡ old.text_faults
