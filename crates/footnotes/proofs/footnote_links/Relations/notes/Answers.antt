use Rattle.std.proofs.Common.{◌∙◌, ap, sym}
use Rattle.std.proofs.lemmas.Result.{IfOk-weaker}
use Rattle.ix_base.specs.LocatedElements.{base_in}
use Rattle.footnotes.specs.Model.{arcs_at}
use Rattle.footnotes.specs.ArcLinks.{links_by, note_in}
use Rattle.footnotes.proofs.GroupLaws.{kept-is}
use Rattle.footnotes.proofs.NoteLaws.{notes-are}
use Rattle.footnotes.proofs.footnote_links.Relations.notes.Goals as goal

pub returns : goal.returns
returns c = λ es kept made apart.
    let bases = base_in c.args.bases.now.pages in
    IfOk-weaker c.links_at.result _ _
    (λ l e. e
    ∙ ap (links_by (note_in bases c.args.chains.now)) (sym (kept-is c.self.inside.groups c.args.target.now) ∙ ap (λ r. arcs_at r c.args.target.now) c.self.view_is)
    ∙ notes-are bases c.args.chains.now es made apart c.args.self.now c.args.target.now kept)
    c.links_at.ensures
