use Rattle.std.proofs.Common.{◌≡◌, ◌∙◌, ◌<◌, sym, subst, arith, length, true}
use Rattle.continuations.specs.Walks.{is_marked}
use Rattle.continuations.proofs.Marking.{going-begins, going-on, going-ends}
use Rattle.continuations.proofs.Walking.{some-inj}
use Rattle.continuations.proofs.marks.mark_from.Goals as goal

pub loop-at-init : goal.loop-at-init
loop-at-init c = record {
  going = going-begins _ _ _ _ c.requires.marked;
  inside = λ j e. subst (λ x. x < length c.args.nexts.now) (some-inj c.args.from j e) c.requires.from;
}

pub loop-at-preserved : goal.loop-at-preserved
loop-at-preserved c =
    let within : c.in-Some.k < length c.args.nexts.now = c.loop-at.invariant.inside c.in-Some.k c.in-Some.is in
    record {
      going = going-on c.args.nexts.now c.args.marks.now c.args.from c.loop-at.marks c.loop-at.at c.in-Some.k c.in-Some.is
          (omega (arith, within, c.loop-at.auto.marks, c.requires.len)) c.loop-at.invariant.going;
      inside = λ j e. c.requires.below c.in-Some.k j e;
    }

pub returns-then-marks-k : goal.returns-then-marks-k
returns-then-marks-k c =
    going-ends c.args.nexts.now c.args.marks.now c.args.first c.args.from c.loop-at.marks c.loop-at.at c.requires.first c.requires.marked
    (λ j e. subst (λ x. is_marked c.loop-at.marks x ≡ true) (some-inj c.in-Some.k j (sym c.in-Some.is ∙ e)) c.if-marks-k.true) c.loop-at.invariant.going

pub returns : goal.returns
returns c =
    going-ends c.args.nexts.now c.args.marks.now c.args.first c.args.from c.loop-at.marks c.loop-at.at c.requires.first c.requires.marked
    (λ j e. absurd (c.in_default.not-Some j e)) c.loop-at.invariant.going
