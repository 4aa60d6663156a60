use Rattle.std.proofs.Common.{◌≡◌, length, subst}
use Rattle.std.specs.Prelude.{IfOk}
use Rattle.ix_base.specs.LocatedElements.{base_in}
use Rattle.footnotes.specs.FootnoteLinks.{notes}
use Rattle.target_contents.specs.LinkedSets.{BasedElements, all_of, bases_of}
use Rattle.target_contents.proofs.ChainLaws.{starts-alone}
use Rattle.target_contents.proofs.notes.notes_for.Goals as goal

pub notes-requires : goal.notes-requires
notes-requires c =
    let l = c.set.inside.linked.now in
    c.chains_on_pages.ensures l.chains (all_of l) (length (bases_of l)) c.set.invariant.0.chains c.set.invariant.0.pages

pub returns : goal.returns
returns c =
    let es = all_of c.set.inside.linked.now in
    let is = c.set.invariant.0 in
    subst (λ (b : BasedElements). IfOk c.notes.result (λ l. l ≡ notes (base_in b.bases) b.elements c.args.target.now)) c.set.view_is
    (c.notes.ensures es is.relations is.chains (λ e at start. starts-alone es is.apart e at))
