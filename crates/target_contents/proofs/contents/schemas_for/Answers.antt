use Rattle.std.proofs.Common.{◌≡◌, ◌∙◌, ◌<◌, ap, length, map, subst, sym}
use Rattle.std.specs.List.{filter}
use Rattle.std.specs.Prelude.{IfOk}
use Rattle.std.proofs.lemmas.List.Elements.{All-filter}
use Rattle.std.proofs.lemmas.Result.{IfOk-weaker}
use Rattle.ix_base.specs.LinkRules.{address_of, is_schema_for}
use Rattle.ix_base.specs.LocatedElements.{Located, base_in}
use Rattle.id_table.specs.Tables.{all_located}
use Rattle.target_contents.specs.Groups.{AreGroups}
use Rattle.target_contents.specs.LinkedSets.{BasedElements, all_of, bases_of}
use Rattle.target_contents.proofs.AmongLaws.{spots-are}
use Rattle.target_contents.proofs.contents.schemas_for.Goals as goal

pub addresses_at-requires : goal.addresses_at-requires
addresses_at-requires c =
    let l = c.set.inside.linked.now in
    let es = all_of l in
    let p = is_schema_for c.args.target.now in
    let groups = subst (λ (b : BasedElements). AreGroups c.valued.inside.groups b.elements) (sym c.set.view_is) c.valued.invariant.1 in
    spots-are (λ (x : Located). x.page < length (bases_of l)) c.at-spots.result.now (filter p es)
    (ap all_located c.at-spots.ensures ∙ groups.schemas c.args.target.now)
    (All-filter p (λ (x : Located). x.page < length (bases_of l)) es c.set.invariant.0.pages)

pub returns : goal.returns
returns c =
    let l = c.set.inside.linked.now in
    let target = c.args.target.now in
    let groups = subst (λ (b : BasedElements). AreGroups c.valued.inside.groups b.elements) (sym c.set.view_is) c.valued.invariant.1 in
    subst (λ (b : BasedElements). IfOk c.addresses_at.result (λ found. found ≡ map (address_of (base_in b.bases)) (filter (is_schema_for target) b.elements)))
    (c.set.view_is ∙ c.valued.view_is)
    (IfOk-weaker c.addresses_at.result _ _ (λ found h. h ∙ ap (map (address_of (base_in (bases_of l))))
    (ap all_located c.at-spots.ensures ∙ groups.schemas target)) c.addresses_at.ensures)
