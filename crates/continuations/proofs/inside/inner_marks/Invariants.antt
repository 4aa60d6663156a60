use Rattle.std.proofs.Common.{◌≡◌, length}
use Rattle.id_table.specs.Tables.{all_located}
use Rattle.continuations.specs.InnerElements.{AreInner}
use Rattle.continuations.proofs.inside.inner_marks.Given as goal

-- the elements before here are marked, if they stand inside others
abbrev pub invariant-loop-x : goal.invariant-loop-x
invariant-loop-x l = record {
  len : length l.marks.items ≡ l.x;
  inner : AreInner l.courses.nexts.now l.courses.first l.numbers (all_located l.spots) l.x l.marks.items;
}
