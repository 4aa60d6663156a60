use Rattle.std.proofs.Common.{◌≡◌}
use Rattle.file_rows.proofs.targets.are_done.Given as goal

-- no call failed
abbrev pub invariant-steps : goal.invariant-steps
invariant-steps g l = g.S.TargetSink.faults l.sink ≡ 0
