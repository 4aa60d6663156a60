use Rattle.std.proofs.Common.{◌≡◌, [], map, take}
use Rattle.page_verdicts.specs.Gains.{GainsAll}
use Rattle.ixds_run.specs.DueTables.{ready}
use Rattle.ixds_run.proofs.deliver.put_targets.Given as goal

abbrev pub invariant-loop-target : goal.invariant-loop-target
invariant-loop-target g l = record {
  gained : GainsAll (map (ready l.dir) (take l.target-index l.targets)) (g.S.TargetSink.targets l.fn.sink) (g.S.TargetSink.targets l.sink);
  faults : g.S.TargetSink.faults l.sink ≡ g.S.TargetSink.faults l.fn.sink;
  numbers : g.S.TargetSink.numbers l.sink ≡ g.S.TargetSink.numbers l.fn.sink;
  none : l.targets ≡ [] → l.sink ≡ l.fn.sink;
}
