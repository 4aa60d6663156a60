use Rattle.std.proofs.Common.{◌∙◌, ap, [], Vec}
use Rattle.std.proofs.lemmas.Result.{IfOk-weaker}
use Rattle.std.specs.Global.{Global}
use Rattle.std.specs.Option.{option_map_or}
use Rattle.ix_base.specs.LocatedElements.{base_in}
use Rattle.footnotes.specs.declared.arcs.ArcGroup.{ArcGroup}
use Rattle.footnotes.specs.ArcGroups.{arcs_along}
use Rattle.footnotes.specs.ArcLinks.{links_by, note_in}
use Rattle.footnotes.proofs.footnote_links.links_at.Goals as goal

pub returns-in-Some : goal.returns-in-Some
returns-in-Some c =
    IfOk-weaker c.links_of.result _ _
    (λ l e. e
    ∙ ap (λ groups. links_by (note_in (base_in c.args.bases.now.pages) c.args.chains.now) (arcs_along groups))
    (c.as_slice.ensures.value ∙ ap (λ o. option_map_or (λ (v : Vec ArcGroup Global). v.items) o []) c.in-Some.ensures))
    c.links_of.ensures
