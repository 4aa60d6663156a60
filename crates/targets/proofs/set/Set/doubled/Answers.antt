use Rattle.std.proofs.Common.{◌∙◌, [], ap, length, map}
use Rattle.ix_base.specs.LocatedElements.{marked}
use Rattle.page_links.specs.Model.{HeldSet, as_paged, names_with}
use Rattle.target_contents.specs.PageSet.{elements}
use Rattle.page_links.specs.LinkStates.{doubled_links}
use Rattle.targets.proofs.LinkStandLaws.{doubled-count}
use Rattle.targets.proofs.set.Set.doubled.Goals as goal

pub returns : goal.returns
returns c unspent =
    c.doubled.ensures ∙ (c.self.invariant (ap (λ (h : HeldSet). h.is_spent) c.self.view_is ∙ unspent)).1.doubled
    ∙ doubled-count (names_with c.self.inside.pages.items []) (marked (map as_paged c.self.inside.pages.items))
    ∙ ap (λ (h : HeldSet). length (doubled_links (elements h.held))) c.self.view_is
