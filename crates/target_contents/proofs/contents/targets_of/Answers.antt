use Rattle.std.proofs.Common.{◌≡◌, ◌∙◌, ap, subst}
use Rattle.std.proofs.lemmas.Result.{IfOk-weaker}
use Rattle.ix_base.specs.LocatedElements.{base_in}
use Rattle.target_contents.specs.Contents.{target_names}
use Rattle.target_contents.specs.LinkedSets.{BasedElements}
use Rattle.target_contents.specs.Visits.{values_of}
use Rattle.target_contents.specs.SetOutcomes.{AreTargets}
use Rattle.target_contents.proofs.contents.targets_of.Goals as goal

pub returns-clause-targets : goal.returns-clause-targets
returns-clause-targets c =
    let v = c.args.valued.now in
    let names = subst (λ (b : BasedElements). values_of c.as_slice.result.now ≡ target_names b.elements) (c.set.view_is ∙ c.valued.view_is)
    (ap values_of c.as_slice.ensures.value ∙ c.in_ok-names.ensures) in
    IfOk-weaker c.targets_named.result _ _ (λ ts h. subst (λ ns. AreTargets (base_in v.bases) v.elements ns ts) names h) c.targets_named.ensures.targets
