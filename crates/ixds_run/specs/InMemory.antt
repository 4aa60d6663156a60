-- A run over objects in memory.
use Rattle.std.specs.Prelude.{◌≡◌, ℕ, ◌+◌, ◌<◌, List, [], length, Some}
use Rattle.ix_base.specs.Calls.{listed}
use Rattle.ix_base.specs.MemPages.{pages_asked, pages_calls, pages_failed, pages_faults, pages_left, pages_numbers, pages_page, pages_starts}
use Rattle.ix_base.specs.MemTargets.{sink_asked, sink_asked_len, sink_calls, sink_failed, sink_faults, sink_most, sink_numbers, sink_room, sink_targets}
use Rattle.ix_base.specs.MemText.{text_calls, text_failed, text_faults, text_numbers, text_room, text_taken}
use Rattle.ix_base.specs.Outside.{room_of}
use Rattle.ix_base.specs.declared.memory.pages.MemPages.{MemPages}
use Rattle.ix_base.specs.declared.memory.targets.MemTargets.{MemTargets}
use Rattle.ix_base.specs.declared.memory.text.MemText.{MemText}
use Rattle.ixds_run.specs.Answers.{Outside}
use Rattle.page_verdicts.specs.CommandBytes.{bytes_told}
use Rattle.ixds_run.specs.DueOutcomes.{DueOutcome, IsOutcome}
use Rattle.command_words.specs.declared.command.Command.{Command}

-- what three objects in memory tell
abbrev pub memory_outside : MemPages → MemTargets → MemText → Outside
memory_outside p s t = record {
  page = pages_page p;
  left = pages_left p;
  page_asked = pages_asked p;
  page_starts = pages_starts p;
  page_faults = pages_faults p;
  page_failed = pages_failed p;
  page_numbers = pages_numbers p;
  targets = Some (sink_targets s);
  target_asked = record { told = sink_asked s; len = sink_asked_len s };
  target_faults = sink_faults s;
  target_failed = sink_failed s;
  target_numbers = sink_numbers s;
  taken = Some (text_taken t);
  text_faults = text_faults t;
  text_failed = text_failed t;
  text_numbers = text_numbers t;
}

-- The three objects are fit for a command: its pages are there and have these bytes, no call is to fail, no call of the targets
-- has failed, there may be more targets than those there and those that are due, with more room than for those there and twice
-- for those that are due, and the text has more room than for what it has and what is due.
pub record AreFit (c : Command) (bs : List (List ℕ)) (p : MemPages) (s : MemTargets) (t : MemText) : Type 0 where
  pub pages : bytes_told (pages_page p) c ≡ Some bs
  pub page_calls : listed (pages_calls p) ≡ []
  pub target_calls : listed (sink_calls s) ≡ []
  pub target_faults : sink_faults s ≡ 0
  pub text_calls : listed (text_calls t) ≡ []
  pub places : (due : DueOutcome) → IsOutcome c bs due → length (sink_targets s) + length due.targets < sink_most s
  pub target_room : (due : DueOutcome) → IsOutcome c bs due
      → room_of (sink_targets s) + (room_of due.targets + room_of due.targets) < sink_room s
  pub text_room : (due : DueOutcome) → IsOutcome c bs due → length (text_taken t) + length due.text < text_room t
