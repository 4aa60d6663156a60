use Rattle.std.proofs.Common.{◌≡◌, ◌∙◌, ◌<◌, true, subst, sym, rules}
use Rattle.std.specs.List.{All}
use Rattle.footnotes.specs.Model.{AreOnPages}
use Rattle.footnotes.proofs.BelowLaws.{all-below}
use Rattle.footnotes.proofs.ChainLaws.{chains-on}
use Rattle.page_rows.proofs.notes.push_notes.Goals as goal

pub notes-requires : goal.notes-requires
notes-requires c =
    let is : c.are_below.result ≡ true = search rules in
    subst (AreOnPages c.args.chains.now) (sym c.in_ok-bases.ensures)
    (chains-on c.args.chains.now c.args.index.now.spots c.args.count c.requires
    (subst (All (λ e. e.page < c.args.count)) c.spots.ensures.elements (all-below c.spots.result.now c.args.count (sym c.are_below.ensures ∙ is))))
