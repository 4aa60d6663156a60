use Rattle.std.proofs.Common.{◌≡◌, ◌≤◌, ◌+◌, ◌-◌, length, drop}
use Rattle.tr4_dates.specs.Runs.{run}
use Rattle.tr4_dates.specs.Code.{set_named}
use Rattle.tr4_dates.proofs.run.run_len.Given as goal

abbrev pub invariant-loop-len : goal.invariant-loop-len
invariant-loop-len l = (l.len ≤ length l.text) × (length (run (set_named l.set) l.text) ≡ l.len + length (run (set_named l.set) (drop l.len l.text)))

abbrev pub decreases-loop-len : goal.decreases-loop-len
decreases-loop-len l = length l.text - l.len
