use Rattle.ix_base.specs.declared.limits.TheConstants.{DEEPEST_ELEMENT}
use Rattle.std.proofs.Common.{◌∙◌, ℕ, All, List, ap, map, subst, sym}
use Rattle.std.proofs.lemmas.Result.{IfOk-weaker}
use Rattle.ix_base.specs.LocatedElements.{Paged}
use Rattle.ix_base.specs.Sound.{IsSoundTree}
use Rattle.page_links.specs.declared.pages.Page.{Page}
use Rattle.page_links.specs.Model.{HeldSet, as_paged}
use Rattle.target_contents.specs.SetOutcomes.{ComesTo, ComesToAlways}
use Rattle.target_contents.specs.PageSet.{PageSet}
use Rattle.targets.proofs.ClosingLaws.{sound-trees}
use Rattle.targets.proofs.ProperLaws.{comes-proper}
use Rattle.targets.proofs.Rearranged.{rearranged}
use Rattle.targets.proofs.set.Set.close.Goals as goal

pub returns-clause-comes : goal.returns-clause-comes
returns-clause-comes c =
    let same = ap (λ (b : List ℕ). record { base = b; pages = map as_paged c.as_slice.result.now }) c.as_str.ensures
    ∙ ap (λ (xs : List Page). record { base = c.self.inside.base; pages = map as_paged xs }) c.as_slice.ensures.value
    ∙ ap (λ (h : HeldSet). h.held) c.self.view_is in
    IfOk-weaker c.closed.result _ _ (λ o h. subst (λ (s : PageSet). ComesTo s o) same h) c.closed.ensures.comes

pub returns-clause-rearranged : goal.returns-clause-rearranged
returns-clause-rearranged c =
    let base = c.as_str.result.now in
    let pages = map as_paged c.as_slice.result.now in
    let sound : All (λ (p : Paged). IsSoundTree p.tree DEEPEST_ELEMENT) pages =
    subst (λ (xs : List Page). All (λ (p : Paged). IsSoundTree p.tree DEEPEST_ELEMENT) (map as_paged xs)) (sym c.as_slice.ensures.value)
    (sound-trees 0 c.self.inside.pages.items (c.self.invariant c.if-self.false).0.sound) in
    let same = ap (λ (b : List ℕ). record { base = b; pages = pages }) c.as_str.ensures
    ∙ ap (λ (xs : List Page). record { base = c.self.inside.base; pages = map as_paged xs }) c.as_slice.ensures.value
    ∙ ap (λ (h : HeldSet). h.held) c.self.view_is in
    IfOk-weaker c.closed.result _ _
    (λ o h. subst (λ (s : PageSet). ComesToAlways s o) same (λ others m. rearranged base pages others m sound o h)) c.closed.ensures.comes

pub returns-clause-proper : goal.returns-clause-proper
returns-clause-proper c =
    let s : PageSet = record { base = c.as_str.result.now; pages = map as_paged c.as_slice.result.now } in
    let sound : All (λ (p : Paged). IsSoundTree p.tree DEEPEST_ELEMENT) (map as_paged c.as_slice.result.now) =
    subst (λ (xs : List Page). All (λ (p : Paged). IsSoundTree p.tree DEEPEST_ELEMENT) (map as_paged xs)) (sym c.as_slice.ensures.value)
    (sound-trees 0 c.self.inside.pages.items (c.self.invariant c.if-self.false).0.sound) in
    IfOk-weaker c.closed.result _ _ (λ o h. comes-proper s sound o h) c.closed.ensures.comes
