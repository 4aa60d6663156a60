use Rattle.std.proofs.Common.{◌∙◌, ap}
use Rattle.std.proofs.lemmas.Result.{IfOk-weaker}
use Rattle.ix_base.specs.LocatedElements.{base_in}
use Rattle.ix_base.specs.Once.{in_order}
use Rattle.ix_base.specs.SortedLists.{text_cmp}
use Rattle.footnotes.specs.ArcGroups.{groups_at}
use Rattle.footnotes.specs.ArcLinks.{note_in, texts_of}
use Rattle.footnotes.proofs.RoleLaws.{links-are}
use Rattle.footnotes.proofs.footnote_links.links_of.Goals as goal

pub returns : goal.returns
returns c =
    IfOk-weaker c.links_in.result _ _
    (λ l e. e ∙ links-are (note_in (base_in c.args.bases.now.pages) c.args.chains.now) c.args.groups.now (groups_at c.in_ok-table.table) _ c.in_ok-table.ensures
    (ap texts_of c.as_slice.ensures.value ∙ c.each_once.ensures ∙ ap (in_order text_cmp) c.in_ok-roles.ensures))
    c.links_in.ensures
