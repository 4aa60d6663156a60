use Rattle.std.proofs.Common.{◌∙◌, ◌<◌, ◌≤◌, sym, subst, arith, length, Some}
use Rattle.std.proofs.lemmas.Bool.{false≢true, eqb-true}
use Rattle.continuations.specs.declared.visits.Visit.{Visit}
use Rattle.continuations.proofs.Sharing.{leads-nowhere, leads-below, alone-by, merged, step-leads, last-leads}
use Rattle.continuations.proofs.Walking.{some-inj}
use Rattle.continuations.proofs.walks.leads.Goals as goal

pub returns-then-at-met : goal.returns-then-at-met
returns-then-at-met c = λ j e.
    let w = c.args.courses.now in
    let up : c.loop-met.at < length w.nexts.now = omega (arith, c.loop-met.invariant.last, c.requires.from) in
    let high : c.loop-met.at ≤ c.in-Some.met.walk = c.if-at-met.true in (
      (λ f. absurd (false≢true f)),
      (λ r. absurd (leads-nowhere w.nexts.now w.first (length w.nexts.now) w.visits.now w.meets.now c.requires.courses.met c.loop-met.at j c.args.to
          c.loop-met.invariant.first up e c.loop-met.invariant.later
          (alone-by w.visits.now w.meets.now c.loop-met.at (Some c.in-Some.met) (sym c.merge.ensures ∙ c.in-Some.is)
          (λ d f. subst (λ (x : Visit). c.loop-met.at ≤ x.walk) (some-inj c.in-Some.met d f) high))
          (c.loop-met.invariant.forth j e r))),
    )

pub returns-then-met-to-2 : goal.returns-then-met-to-2
returns-then-met-to-2 c = λ j e.
    let w = c.args.courses.now in
    let up : c.loop-met.at < length w.nexts.now = omega (arith, c.loop-met.invariant.last, c.requires.from) in
    let both = last-leads w.nexts.now w.first (length w.nexts.now) w.visits.now w.meets.now c.requires.courses.met c.loop-met.at j c.in-Some.met c.args.to
    c.loop-met.invariant.first up (sym c.merge.ensures ∙ c.in-Some.is) c.if-at-met.false e (sym c.if-met-to-2.true) in
    ((λ f. c.loop-met.invariant.back j e (both.0 (c.is_behind.ensures.0 f))), (λ r. c.is_behind.ensures.1 (both.1 (c.loop-met.invariant.forth j e r))))

pub returns-else-met-to-2 : goal.returns-else-met-to-2
returns-else-met-to-2 c = λ j e.
    let w = c.args.courses.now in
    let up : c.loop-met.at < length w.nexts.now = omega (arith, c.loop-met.invariant.last, c.requires.from) in
    let n = merged w.visits.now w.meets.now c.loop-met.at c.in-Some.met (sym c.merge.ensures ∙ c.in-Some.is) in
    let less : c.in-Some.met.walk < c.args.to.walk = omega (arith, c.if-met-to.true, c.if-met-to-2.false) in (
      (λ f. absurd (c.if-met-to-2.false (eqb-true _ _ f))),
      (λ r. absurd (leads-below w.nexts.now w.first (length w.nexts.now) w.visits.now w.meets.now c.requires.courses.met c.loop-met.at n.0 j c.in-Some.met c.args.to
          c.loop-met.invariant.first up n.1 n.2 less e c.loop-met.invariant.later (c.loop-met.invariant.forth j e r))),
    )

pub returns : goal.returns
returns c = λ j e.
    let w = c.args.courses.now in
    let up : c.loop-met.at < length w.nexts.now = omega (arith, c.loop-met.invariant.last, c.requires.from) in (
      (λ f. absurd (false≢true f)),
      (λ r. absurd (leads-nowhere w.nexts.now w.first (length w.nexts.now) w.visits.now w.meets.now c.requires.courses.met c.loop-met.at j c.args.to
          c.loop-met.invariant.first up e c.loop-met.invariant.later
          (alone-by w.visits.now w.meets.now c.loop-met.at c.merge.result (sym c.merge.ensures) (λ d f. absurd (c.in_default.not-Some d f)))
          (c.loop-met.invariant.forth j e r))),
    )

pub loop-met-preserved : goal.loop-met-preserved
loop-met-preserved c =
    let w = c.args.courses.now in
    let up : c.loop-met.at < length w.nexts.now = omega (arith, c.loop-met.invariant.last, c.requires.from) in
    let here : c.loop-met.at < length w.fars.now = omega (arith, up, c.requires.courses.fars) in
    let g = step-leads w.nexts.now w.first (length w.nexts.now) w.visits.now w.meets.now c.requires.courses.met c.loop-met.at _ c.args.to.walk c.farther-at.result c.in-Some.met
    c.loop-met.invariant.first up (c.requires.courses.far.late c.loop-met.at c.loop-met.invariant.first here) (c.requires.courses.far.leads c.loop-met.at c.loop-met.invariant.first here)
    (sym c.merge.ensures ∙ c.in-Some.is) c.if-at-met.false c.if-met-to.false c.farther-at.ensures in
    record {
      first = g.0;
      last = omega (arith, g.1, c.loop-met.invariant.last);
      later = g.2;
      forth = λ j e r. (g.3 j c.args.to e g.2).0 (c.loop-met.invariant.forth j e r);
      back = λ j e r. c.loop-met.invariant.back j e ((g.3 j c.args.to e g.2).1 r);
    }
