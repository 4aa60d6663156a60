use Rattle.std.proofs.Common.{◌∙◌, ◌<◌, ◌≤◌, sym, subst, arith, length, inl, inr}
use Rattle.std.proofs.lemmas.Bool.{false≢true, eq-eqb}
use Rattle.continuations.specs.Walks.{Reaches}
use Rattle.continuations.proofs.Sharing.{shared-one, shared-by, swap, not-shared}
use Rattle.continuations.proofs.walks.share.Goals as goal

pub leads-requires-clause-from : goal.leads-requires-clause-from
leads-requires-clause-from c = (c.requires.met.at c.args.x c.in-Some-Some.b (sym c.visit_of.ensures ∙ c.in-Some-Some.is-0)).1

pub leads-requires-clause-first : goal.leads-requires-clause-first
leads-requires-clause-first c = (c.requires.met.at c.args.x c.in-Some-Some.b (sym c.visit_of.ensures ∙ c.in-Some-Some.is-0)).0

pub leads-requires-else-c-b-clause-from : goal.leads-requires-else-c-b-clause-from
leads-requires-else-c-b-clause-from c = (c.requires.met.at c.args.y c.in-Some-Some.c (sym c.visit_of-2.ensures ∙ c.in-Some-Some.is-1)).1

pub leads-requires-else-c-b-clause-first : goal.leads-requires-else-c-b-clause-first
leads-requires-else-c-b-clause-first c = (c.requires.met.at c.args.y c.in-Some-Some.c (sym c.visit_of-2.ensures ∙ c.in-Some-Some.is-1)).0

pub returns-then-b-c : goal.returns-then-b-c
returns-then-b-c c =
    let w = c.args.courses.now in
    let at = c.requires.met.at c.args.y c.in-Some-Some.c (sym c.visit_of-2.ensures ∙ c.in-Some-Some.is-1) in (
      (λ _. shared-one w.nexts.now w.first (length w.nexts.now) w.visits.now w.meets.now c.requires.met c.args.x c.args.y c.in-Some-Some.b c.in-Some-Some.c
          (sym c.visit_of.ensures ∙ c.in-Some-Some.is-0) (sym c.visit_of-2.ensures ∙ c.in-Some-Some.is-1) (subst (λ h. Reaches w.nexts.now h c.args.y) (sym c.if-b-c.true) (c.in-Some-Some.c.step, at.2))),
      (λ _. eq-eqb _ _ c.if-b-c.true),
    )

pub returns-then-c-b : goal.returns-then-c-b
returns-then-c-b c =
    let w = c.args.courses.now in
    let l : c.in-Some-Some.c.walk < c.in-Some-Some.b.walk = c.if-c-b.true in (
      (λ f. shared-one w.nexts.now w.first (length w.nexts.now) w.visits.now w.meets.now c.requires.met c.args.x c.args.y c.in-Some-Some.b c.in-Some-Some.c
          (sym c.visit_of.ensures ∙ c.in-Some-Some.is-0) (sym c.visit_of-2.ensures ∙ c.in-Some-Some.is-1) ((c.leads.ensures c.args.y (sym c.visit_of-2.ensures ∙ c.in-Some-Some.is-1)).0 f)),
      (λ s. (c.leads.ensures c.args.y (sym c.visit_of-2.ensures ∙ c.in-Some-Some.is-1)).1
          (shared-by w.nexts.now w.first (length w.nexts.now) w.visits.now w.meets.now c.requires.met c.args.x c.args.y c.in-Some-Some.b c.in-Some-Some.c
          (sym c.visit_of.ensures ∙ c.in-Some-Some.is-0) (sym c.visit_of-2.ensures ∙ c.in-Some-Some.is-1) (omega (arith, l)) s)),
    )

pub returns-else-c-b : goal.returns-else-c-b
returns-else-c-b c =
    let w = c.args.courses.now in
    let l : c.in-Some-Some.b.walk ≤ c.in-Some-Some.c.walk = c.if-c-b.false in (
      (λ f. swap w.nexts.now w.first (length w.nexts.now) c.args.y c.args.x (shared-one w.nexts.now w.first (length w.nexts.now) w.visits.now w.meets.now c.requires.met c.args.y c.args.x c.in-Some-Some.c c.in-Some-Some.b
          (sym c.visit_of-2.ensures ∙ c.in-Some-Some.is-1) (sym c.visit_of.ensures ∙ c.in-Some-Some.is-0) ((c.leads-else-c-b.ensures c.args.x (sym c.visit_of.ensures ∙ c.in-Some-Some.is-0)).0 f))),
      (λ s. (c.leads-else-c-b.ensures c.args.x (sym c.visit_of.ensures ∙ c.in-Some-Some.is-0)).1
          (shared-by w.nexts.now w.first (length w.nexts.now) w.visits.now w.meets.now c.requires.met c.args.y c.args.x c.in-Some-Some.c c.in-Some-Some.b
          (sym c.visit_of-2.ensures ∙ c.in-Some-Some.is-1) (sym c.visit_of.ensures ∙ c.in-Some-Some.is-0) l (swap w.nexts.now w.first (length w.nexts.now) c.args.x c.args.y s))),
    )

pub returns-in_default : goal.returns-in_default
returns-in_default c =
    let w = c.args.courses.now in (
      (λ f. absurd (false≢true f)),
      (λ s. absurd (not-shared w.nexts.now w.first (length w.nexts.now) w.visits.now w.meets.now c.requires.met c.args.x c.args.y (inr (sym c.visit_of-2.ensures ∙ c.in_default.is-1)) s)),
    )

pub returns-in_default-2 : goal.returns-in_default-2
returns-in_default-2 c =
    let w = c.args.courses.now in (
      (λ f. absurd (false≢true f)),
      (λ s. absurd (not-shared w.nexts.now w.first (length w.nexts.now) w.visits.now w.meets.now c.requires.met c.args.x c.args.y (inl (sym c.visit_of.ensures ∙ c.in_default.is-0)) s)),
    )
