use Rattle.std.proofs.Common.{◌+◌, ◌<◌, ◌∙◌, ap, subst, sym, arith, length, List, ℕ}
use Rattle.std.proofs.lemmas.List.Elements.{All-push, All-weaker}
use Rattle.std.specs.List.{All}
use Rattle.continuations.specs.Visits.{merge_at, IsFar}
use Rattle.continuations.specs.Depths.{depth_by, far_by}
use Rattle.continuations.proofs.Leaping.{leaps-more}
use Rattle.continuations.proofs.Sharing.{far-more}
use Rattle.continuations.proofs.walks.fars_of.Goals as goal

pub loop-walk-preserved : goal.loop-walk-preserved
loop-walk-preserved c = record {
  fars = omega (arith, c.loop-walk.invariant.fars, c.in_ok-push.ensures.len);
  depths = omega (arith, c.loop-walk.invariant.depths, c.in_ok-push-2.ensures.len);
  small = subst (All (λ d. d < c.loop-walk.walk + 1)) (sym c.in_ok-push-2.ensures.items) (All-push (λ d. d < c.loop-walk.walk + 1) c.loop-walk.depths.items c.depth_of.result
      (All-weaker (λ d. d < c.loop-walk.walk) (λ d. d < c.loop-walk.walk + 1) (λ d l. omega (arith, l)) c.loop-walk.depths.items c.loop-walk.invariant.small)
      (omega (arith, c.depth_of.ensures.small)));
  far = far-more c.args.nexts.now c.args.first (length c.args.nexts.now) c.args.visits.now c.args.meets.now c.requires.met c.loop-walk.walk c.far_of.result c.loop-walk.fars.items c.push.new.self.items
      c.loop-walk-test.true c.loop-walk.invariant.fars c.loop-walk.invariant.far
      (subst (λ (fs : List ℕ). IsFar c.args.visits.now c.args.meets.now fs c.loop-walk.walk c.far_of.result) c.deref.ensures.value c.far_of.ensures.place) c.in_ok-push.ensures.items;
  leaps = leaps-more c.args.visits.now c.args.meets.now c.loop-walk.walk c.depth_of.result c.far_of.result c.loop-walk.depths.items c.push-in-loop-walk.new.self.items c.loop-walk.fars.items c.push.new.self.items
      c.loop-walk.invariant.leaps c.loop-walk.invariant.far.early c.loop-walk.invariant.depths c.loop-walk.invariant.fars
      (c.depth_of.ensures.depth ∙ ap (λ ds. depth_by (merge_at c.args.visits.now c.args.meets.now c.loop-walk.walk) ds c.loop-walk.walk) c.deref-in-loop-walk-2.ensures.value)
      (c.far_of.ensures.leap ∙ (λ i. far_by (merge_at c.args.visits.now c.args.meets.now c.loop-walk.walk) (c.deref.ensures.value i) (c.deref-in-loop-walk.ensures.value i) c.loop-walk.walk))
      c.in_ok-push-2.ensures.items c.in_ok-push.ensures.items;
}

pub returns-clause-leaps : goal.returns-clause-leaps
returns-clause-leaps c = (c.loop-walk.depths.items, c.loop-walk.invariant.leaps)
