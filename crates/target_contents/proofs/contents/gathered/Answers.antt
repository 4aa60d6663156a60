use Rattle.std.proofs.Common.{◌≡◌, ◌∙◌, ap, subst}
use Rattle.ix_base.specs.declared.kind.Kind.TheVariants as kind
use Rattle.ix_base.specs.LocatedElements.{base_in}
use Rattle.footnotes.specs.FootnoteLinks.{notes}
use Rattle.target_contents.specs.Contents.{arcroles_in, roles_for, roles_in, uris_in}
use Rattle.target_contents.specs.LinkedSets.{BasedElements}
use Rattle.target_contents.proofs.ContentLaws.{gathered-writable}
use Rattle.target_contents.proofs.contents.gathered.Goals as goal

pub returns : goal.returns
returns c =
    let v = c.args.valued.now in
    let bases = base_in v.bases in
    let es = v.elements in
    let links = subst (λ (b : BasedElements). c.in_ok-notes.notes ≡ notes (base_in b.bases) b.elements c.args.target.now) c.valued.view_is c.in_ok-notes.ensures in
    let roles = subst (λ (b : BasedElements). c.in_ok-roles.roles ≡ roles_for (base_in b.bases) b.elements kind.RoleRef (uris_in roles_in c.as_slice.result.now))
    c.valued.view_is c.in_ok-roles.ensures in
    let arcroles = subst (λ (b : BasedElements). c.in_ok-arcroles.arcroles
    ≡ roles_for (base_in b.bases) b.elements kind.ArcroleRef (uris_in arcroles_in c.as_slice-2.result.now))
    c.valued.view_is c.in_ok-arcroles.ensures in record {
      gathered = record {
        schemas = c.in_ok-schemas.ensures;
        linkbases = c.in_ok-linkbases.ensures;
        contexts = c.in_ok-contexts.ensures.contexts;
        units = c.in_ok-contexts.ensures.units;
        facts = c.in_ok-facts.ensures.facts;
        roles = roles ∙ ap (λ used. roles_for bases es kind.RoleRef (uris_in roles_in used)) (c.as_slice.ensures ∙ links);
        arcroles = arcroles ∙ ap (λ used. roles_for bases es kind.ArcroleRef (uris_in arcroles_in used)) (c.as_slice-2.ensures ∙ links);
        notes = links;
      };
      writable = gathered-writable es c.args.target.now _ c.in_ok-contexts.ensures.contexts c.in_ok-facts.ensures.shallow;
    }
