use Rattle.std.proofs.Common.{◌≡◌, ◌+◌, false, Some, None, drop, sym, ◌∙◌, subst}
use Rattle.std.proofs.lemmas.Str.{IsCharBoundary-from_rest}
use Rattle.std.specs.Str.{IsCharBoundary}
use Rattle.page_tree.specs.MachineSteps.{Leads, Breaks}
use Rattle.page_tree.specs.Break.{fault}
use Rattle.page_tree.specs.Buildings.{state_of}
use Rattle.page_constructs.specs.Constructs.{whole_size}
use Rattle.page_constructs.specs.Searches.{IsSought}
use Rattle.page_tree.proofs.PlacingLaws.{says-behind, offset-first, drop-behind}
use Rattle.page_tree.proofs.settle.step_at.Goals as goal

pub returns-clause-takes : goal.returns-clause-takes
returns-clause-takes c = λ k q.
    let t = c.step.ensures.takes k q in
    let text = c.args.text.now in
    let at = c.args.at in
    let d = c.args.setting.now.depth in
    let s = state_of c.args.building.now in
    let u = state_of c.step.new.building in
    let rest = c.split_at.ensures.back in
    let front = c.is_front.ensures in (
      t.0,
      IsCharBoundary-from_rest text at k c.requires.boundary.0 (subst (λ x. IsCharBoundary x k) rest t.1),
      subst (λ x. whole_size c.args.ended x (drop at text) ≡ Some k) front (subst (λ x. whole_size c.args.ended c.is_front.result x ≡ Some k) rest t.2),
      λ us h.
          let leads = t.3 (drop at us) (says-behind text c.args.places us at h ∙ sym rest) (offset-first text c.args.places us at c.requires.behind c.requires.within h ∙ sym c.offset-start.ensures) in
          subst (λ x. Leads c.args.ended d s x (drop at us) u false (drop (at + k) us)) front
          (subst (λ x. Leads c.args.ended d s c.is_front.result (drop at us) u false x) (drop-behind k at us) leads),
    )

pub returns-clause-breaks : goal.returns-clause-breaks
returns-clause-breaks c = λ b q us h.
    let text = c.args.text.now in
    let at = c.args.at in
    subst (λ x. Breaks c.args.ended c.args.setting.now.depth (state_of c.args.building.now) x (drop at us) (fault b.offset b.rule)) c.is_front.ensures
    (c.step.ensures.breaks b q (drop at us) (says-behind text c.args.places us at h ∙ sym c.split_at.ensures.back)
    (offset-first text c.args.places us at c.requires.behind c.requires.within h ∙ sym c.offset-start.ensures))

pub returns-clause-waits : goal.returns-clause-waits
returns-clause-waits c = λ s q.
    let w = c.step.ensures.waits s q in
    let rest = c.split_at.ensures.back in
    let front = c.is_front.ensures in (
      subst (λ x. whole_size c.args.ended x (drop c.args.at c.args.text.now) ≡ None) front (subst (λ x. whole_size c.args.ended c.is_front.result x ≡ None) rest w.0),
      w.1,
      subst (λ x. IsSought x (drop c.args.at c.args.text.now) s) front (subst (λ x. IsSought c.is_front.result x s) rest w.2),
    )
