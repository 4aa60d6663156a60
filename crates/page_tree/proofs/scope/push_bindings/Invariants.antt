use Rattle.std.proofs.Common.{◌≡◌, ◌++◌, map}
use Rattle.ix_base.specs.Bindings.{bound}
use Rattle.ix_base.specs.Spaces.{space_bound}
use Rattle.page_tree.specs.Orders.{entered}
use Rattle.page_tree.specs.Spaces.{HaveNumbers, Keeps}
use Rattle.page_tree.proofs.scope.push_bindings.Given as goal

abbrev pub invariant-loop-prefix : goal.invariant-loop-prefix
invariant-loop-prefix l = record {
  list : map bound l.list.items ++ map entered l.prefix-iterator ≡ map bound l.initial.list.items ++ map entered l.declared.entries;
  spaces : HaveNumbers l.initial.spaces.numbers (map space_bound l.initial.list.items) → HaveNumbers l.spaces.numbers (map space_bound l.list.items);
  kept : Keeps l.initial.spaces.numbers l.spaces.numbers;
}
