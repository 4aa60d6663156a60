use Rattle.std.proofs.Common.{[], None, rules}
use Rattle.std.proofs.lemmas.List.Elements.{All-cons, All-nil}
use Rattle.std.specs.Borrow.{Bor}
use Rattle.ix_base.specs.declared.tree.Spot as spot
use Rattle.ix_base.specs.declared.tree.Spot.{Spot, roll-Spot}
use Rattle.ix_base.specs.Spots.{IsOn, IsOnOnePage}
use Rattle.id_table.proofs.OnPages.{spot-on_page}
use Rattle.page_rows.proofs.items.said_by.Goals as goal

pub item_of-requires-clause-pages : goal.item_of-requires-clause-pages
item_of-requires-clause-pages c =
    let e = c.args.element.now in
    let at : Spot = roll-Spot (record { element = c.args.element; up = None }) in
    let own : IsOnOnePage at =
    spot-on_page at e [] (search (rules, spot.the_lemmas)) (search (rules, spot.the_lemmas)) c.requires.spaces (All-nil (IsOn e.place.page)) in
    All-cons (λ (s : Bor Spot). IsOnOnePage s.now) _ [] own (All-nil (λ (s : Bor Spot). IsOnOnePage s.now))
