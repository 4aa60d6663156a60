use Rattle.std.proofs.Common.{◌≡◌, ◌++◌, map}
use Rattle.instance_lines.proofs.sort.push_parts.Given as goal

abbrev pub invariant-loop-one : goal.invariant-loop-one
invariant-loop-one g l = record {
  keys : l.keys.items ≡ l.initial.keys.items ++ map (λ k. k.key) l.yielded;
  items : l.items.items ≡ l.initial.items.items ++ map (λ k. k.item) l.yielded;
}
