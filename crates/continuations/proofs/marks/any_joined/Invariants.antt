use Rattle.std.proofs.Common.{◌≡◌, length}
use Rattle.continuations.proofs.Joining.{AreNextsMarked}
use Rattle.continuations.proofs.marks.any_joined.Given as goal

-- those at which the elements before here go on are marked
abbrev pub invariant-loop-next : goal.invariant-loop-next
invariant-loop-next l = record {
  len : length l.marks.items ≡ l.first;
  marked : AreNextsMarked l.nexts l.next-index l.marks.items;
}
