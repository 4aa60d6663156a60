use Rattle.std.proofs.Common.{◌≡◌, ◌∙◌, ap, subst}
use Rattle.std.specs.List.{filter_map}
use Rattle.std.specs.Prelude.{IfOk}
use Rattle.std.proofs.lemmas.Result.{IfOk-weaker}
use Rattle.ix_base.specs.declared.kind.Kind.TheVariants as kind
use Rattle.ix_base.specs.LocatedElements.{base_in}
use Rattle.ix_base.specs.Once.{in_order}
use Rattle.ix_base.specs.SortedLists.{text_cmp}
use Rattle.target_contents.specs.Contents as contents
use Rattle.target_contents.specs.Contents.{arcroles_in, uris_in}
use Rattle.target_contents.specs.LinkedSets.{BasedElements, all_of, bases_of}
use Rattle.target_contents.specs.RoleAddresses.{role_seen}
use Rattle.target_contents.specs.Visits.{values_of}
use Rattle.target_contents.proofs.NoteLaws.{roles-are}
use Rattle.target_contents.proofs.notes.arcroles_for.Goals as goal

pub returns : goal.returns
returns c =
    let l = c.set.inside.linked.now in
    let m = l.seen_roles.arcroles in
    let uris = uris_in arcroles_in c.args.links.now in
    let used = ap values_of c.as_slice.ensures.value ∙ c.each_once.ensures ∙ ap (in_order text_cmp) c.in_ok-uris.ensures in
    subst (λ (b : BasedElements). IfOk c.references_for.result (λ found. found ≡ contents.roles_for (base_in b.bases) b.elements kind.ArcroleRef uris)) c.set.view_is
    (IfOk-weaker c.references_for.result _ _ (λ found is. is ∙ ap (filter_map (role_seen m)) used
    ∙ roles-are (base_in (bases_of l)) (all_of l) kind.ArcroleRef m c.set.invariant.0.seen_roles.arcroles uris) c.references_for.ensures)
