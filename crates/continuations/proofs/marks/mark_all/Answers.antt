use Rattle.std.proofs.Common.{◌≡◌, ◌≤◌, subst, arith, length}
use Rattle.continuations.specs.Walks.{AreReached}
use Rattle.continuations.proofs.marks.mark_all.Goals as goal

pub returns : goal.returns
returns c =
    let low : length c.args.nexts.now ≤ c.loop-from.from = c.loop-from-test.false in
    let high : c.loop-from.from ≤ length c.args.nexts.now = c.loop-from.auto.from-end c.requires.first in
    let e : c.loop-from.from ≡ length c.args.nexts.now = omega (arith, low, high) in
    subst (λ n. AreReached c.args.nexts.now c.args.first n c.loop-from.marks) e c.loop-from.invariant.marked
