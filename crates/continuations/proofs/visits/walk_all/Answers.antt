use Rattle.std.proofs.Common.{◌≡◌, ◌<◌, ◌≤◌, subst, arith, length}
use Rattle.continuations.specs.Visits.{Met}
use Rattle.continuations.proofs.VisitLaws.{met-more}
use Rattle.continuations.proofs.visits.walk_all.Goals as goal

pub loop-from-preserved : goal.loop-from-preserved
loop-from-preserved c =
    let l : c.loop-from.from < length c.args.nexts.now = c.loop-from-test.true in
    met-more c.args.nexts.now c.args.first c.loop-from.from c.walk_from.ensures.walking.0 c.loop-from.visits c.walk_from.new.visits c.loop-from.meets c.walk_from.result
    c.loop-from.invariant c.walk_from.ensures.walking.1 c.walk_from.ensures.met c.loop-from.auto.from (omega (arith, l, c.loop-from.auto.meets, c.requires.meets)) c.requires.below

pub returns : goal.returns
returns c =
    let low : length c.args.nexts.now ≤ c.loop-from.from = c.loop-from-test.false in
    let high : c.loop-from.from ≤ length c.args.nexts.now = c.loop-from.auto.from-end c.requires.first in
    let e : c.loop-from.from ≡ length c.args.nexts.now = omega (arith, low, high) in
    subst (λ n. Met c.args.nexts.now c.args.first n c.loop-from.visits c.loop-from.meets) e c.loop-from.invariant
