use Rattle.std.proofs.Common.{◌≡◌, ◌∙◌, ◌<◌, ap, length, map, subst, sym}
use Rattle.std.specs.List.{filter}
use Rattle.std.specs.Prelude.{IfOk}
use Rattle.std.proofs.lemmas.List.Elements.{All-filter}
use Rattle.std.proofs.lemmas.Result.{IfOk-weaker}
use Rattle.ix_base.specs.LocatedElements.{Located, base_in}
use Rattle.id_table.specs.Tables.{all_located}
use Rattle.target_contents.specs.Contents.{is_linkbase_for, linkbase_at}
use Rattle.target_contents.specs.Groups.{AreGroups}
use Rattle.target_contents.specs.LinkedSets.{BasedElements, all_of, bases_of}
use Rattle.target_contents.proofs.AmongLaws.{spots-are}
use Rattle.target_contents.proofs.contents.linkbases_for.Goals as goal

pub linkbases_at-requires : goal.linkbases_at-requires
linkbases_at-requires c =
    let l = c.set.inside.linked.now in
    let es = all_of l in
    let p = is_linkbase_for c.args.target.now in
    let groups = subst (λ (b : BasedElements). AreGroups c.valued.inside.groups b.elements) (sym c.set.view_is) c.valued.invariant.1 in
    spots-are (λ (x : Located). x.page < length (bases_of l)) c.at-spots.result.now (filter p es)
    (ap all_located c.at-spots.ensures ∙ groups.linkbases c.args.target.now)
    (All-filter p (λ (x : Located). x.page < length (bases_of l)) es c.set.invariant.0.pages)

pub returns : goal.returns
returns c =
    let l = c.set.inside.linked.now in
    let target = c.args.target.now in
    let groups = subst (λ (b : BasedElements). AreGroups c.valued.inside.groups b.elements) (sym c.set.view_is) c.valued.invariant.1 in
    subst (λ (b : BasedElements). IfOk c.linkbases_at.result (λ found. found ≡ map (linkbase_at (base_in b.bases)) (filter (is_linkbase_for target) b.elements)))
    (c.set.view_is ∙ c.valued.view_is)
    (IfOk-weaker c.linkbases_at.result _ _ (λ found h. h ∙ ap (map (linkbase_at (base_in (bases_of l))))
    (ap all_located c.at-spots.ensures ∙ groups.linkbases target)) c.linkbases_at.ensures)
