-- What there is after a run is what is due.
use Rattle.std.specs.Prelude.{◌≡◌, Some, true, All, string_bytes}
use Rattle.ix_base.specs.MemTargets.{sink_taken, sink_finished}
use Rattle.ix_base.specs.MemText.{text_taken}
use Rattle.ix_base.specs.declared.memory.targets.MemTargets.{MemTargets}
use Rattle.ixds_run.specs.ExitCodes.{code_of}
use Rattle.set_rows.specs.declared.sets.due.Due.{Due}
use Rattle.set_rows.specs.declared.sets.due.Target.{Target}
use Rattle.set_rows.specs.declared.sets.outcome.Outcome.{Outcome}

-- the target is finished, and has these bytes
abbrev pub IsWritten : MemTargets → Target → Type 0
IsWritten sink target = (sink_taken sink (string_bytes target.name) ≡ Some target.bytes.items)
    × (sink_finished sink (string_bytes target.name) ≡ true)

-- the status, the text and each target are those that are due
abbrev pub IsAsDue : Due → Outcome → Type 0
IsAsDue due outcome = (code_of outcome.status ≡ due.status)
    × (text_taken outcome.out ≡ string_bytes due.text)
    × All (IsWritten outcome.sink) due.targets.items
