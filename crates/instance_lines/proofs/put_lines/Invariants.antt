use Rattle.std.proofs.Common.{◌≡◌, IsTrue, option_map, take}
use Rattle.std.specs.List.{concat}
use Rattle.ix_base.specs.Outside.{last_grown}
use Rattle.instance_lines.proofs.put_lines.Given as goal

abbrev pub invariant-loop-line : goal.invariant-loop-line
invariant-loop-line g l = record {
  faults : g.S.TargetSink.faults l.sink ≡ g.S.TargetSink.faults l.initial.sink;
  is_open : IsTrue (g.S.TargetSink.is_open l.sink);
  targets : g.S.TargetSink.targets l.sink ≡ option_map (last_grown (concat (take l.line-index l.lines))) (g.S.TargetSink.targets l.initial.sink);
  asked : g.S.TargetSink.asked l.sink ≡ g.S.TargetSink.asked l.initial.sink;
  asked_len : g.S.TargetSink.asked_len l.sink ≡ g.S.TargetSink.asked_len l.initial.sink;
  numbers : g.S.TargetSink.numbers l.sink ≡ g.S.TargetSink.numbers l.initial.sink;
}
