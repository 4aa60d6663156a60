use Rattle.std.proofs.Common.{◌≡◌, ◌∙◌, ◌<◌, ◌≤◌, ap, sym, subst, arith, length, refl, false}
use Rattle.std.specs.Prelude.{is_some}
use Rattle.continuations.specs.Visits.{visit_at}
use Rattle.continuations.proofs.VisitLaws.{walking-begins, walking-on, unmet, unmet-small, unmet-less, some-is}
use Rattle.continuations.proofs.Walking.{some-inj}
use Rattle.continuations.proofs.visits.walk_from.Goals as goal

pub loop-at-init : goal.loop-at-init
loop-at-init c = record {
  walking = walking-begins c.args.nexts.now c.args.from c.args.visits.now;
  inside = λ j e. subst (λ x. x < length c.args.nexts.now) (some-inj c.args.from j e) c.requires.from;
  small = let h : unmet c.args.visits.now ≤ length c.args.visits.now = unmet-small c.args.visits.now in omega (arith, h, c.requires.len);
}

pub returns-then-is_some-clause-met : goal.returns-then-is_some-clause-met
returns-then-is_some-clause-met c = λ k e.
    some-is (visit_at c.loop-at.visits k) (ap (λ j. is_some (visit_at c.loop-at.visits j)) (sym (some-inj c.in-Some.k k e)) ∙ sym c.is_some.ensures ∙ c.if-is_some.true)

pub loop-at-preserved : goal.loop-at-preserved
loop-at-preserved c =
    let within : c.in-Some.k < length c.args.nexts.now = c.loop-at.invariant.inside c.in-Some.k c.in-Some.is in
    let l : c.in-Some.k < length c.loop-at.visits = omega (arith, within, c.loop-at.auto.visits, c.requires.len) in
    let free : is_some (visit_at c.loop-at.visits c.in-Some.k) ≡ false = sym c.is_some.ensures ∙ c.if-is_some.false in
    record {
      walking = walking-on c.args.nexts.now c.args.from c.args.visits.now c.loop-at.visits c.loop-at.step c.loop-at.at c.in-Some.k (record { walk = c.args.from; step = c.loop-at.step })
          c.loop-at.invariant.walking c.in-Some.is free l refl;
      inside = λ j e. c.requires.below c.in-Some.k j e;
      small = let h = unmet-less c.loop-at.visits c.in-Some.k (record { walk = c.args.from; step = c.loop-at.step }) l free in omega (arith, h, c.loop-at.invariant.small);
    }
