use Rattle.std.proofs.Common.{◌∙◌, ap, map, subst, List}
use Rattle.std.proofs.lemmas.Result.{IfOk-weaker}
use Rattle.ix_base.specs.LocatedElements.{Paged}
use Rattle.page_links.specs.Model.{as_paged}
use Rattle.target_contents.specs.PageSet.{PageSet}
use Rattle.target_contents.specs.SetOutcomes.{ComesTo}
use Rattle.targets.proofs.at_once.made.Goals as goal

pub returns-clause-made : goal.returns-clause-made
returns-clause-made c =
    let is = ap (λ (ps : List Paged). record { base = c.args.base.now; pages = ps })
    (ap (map as_paged) c.as_slice.ensures.value ∙ c.in_ok-pages.ensures.pages) in
    IfOk-weaker c.made_of.result _ _ (λ o h. subst (λ (s : PageSet). ComesTo s o) is h) c.made_of.ensures.comes
