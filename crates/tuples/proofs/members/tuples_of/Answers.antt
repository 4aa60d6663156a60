use Rattle.std.proofs.Common.{◌∙◌, ◌++◌, ◌+◌, ◌∷◌, [], ap, sym, subst, take, option_map, List}
use Rattle.std.proofs.lemmas.List.{take_all, take_more}
use Rattle.std.specs.Borrow.{Bor}
use Rattle.std.specs.List.{filter}
use Rattle.ix_base.specs.declared.tree.Spot.{Spot}
use Rattle.ix_base.specs.Asks.{asks, only}
use Rattle.ix_base.specs.Ids.{holds_tuple_id, tuple_id_of}
use Rattle.ix_base.specs.LocatedElements.{Located, located}
use Rattle.std.proofs.lemmas.List.Elements.{All-filter, All-take}
use Rattle.ix_base.specs.Spots.{IsOnOnePage}
use Rattle.id_table.specs.Tables.{AreOnOwnPages, Entered}
use Rattle.id_table.proofs.Asking.{one-map}
use Rattle.id_table.proofs.Entering.{each-entered}
use Rattle.id_table.proofs.SortedKinds.{tuple-ids-of}
use Rattle.tuples.proofs.members.tuples_of.Goals as goal

pub returns-clause-tuples : goal.returns-clause-tuples
returns-clause-tuples c = λ q.
    ap (λ (xs : List (Bor Spot)). option_map (λ (s : Bor Spot). located s.now) (only xs))
    (c.loop-spot.invariant q ∙ ap (λ (xs : List (Bor Spot)). filter (λ s. holds_tuple_id q (located s.now)) xs) (take_all c.loop-spot.spot-index c.facts-spot-items.result.now c.loop-spot-test.false))
    ∙ one-map (λ (s : Bor Spot). located s.now) (holds_tuple_id q) c.facts-spot-items.result.now
    ∙ ap (λ (es : List Located). (asks es).one (holds_tuple_id q)) c.facts-spot-items.ensures.elements
    ∙ ap only (tuple-ids-of q c.args.index.now.spots)

pub returns-clause-pages : goal.returns-clause-pages
returns-clause-pages c = λ q.
    let on = λ (s : Bor Spot). IsOnOnePage s.now in
    let met = take c.loop-spot.spot-index c.facts-spot-items.result.now in
    subst AreOnOwnPages (sym (c.loop-spot.invariant q)) (All-filter _ on met (All-take on c.loop-spot.spot-index c.facts-spot-items.result.now c.facts-spot-items.ensures.pages))

pub loop-spot-preserved : goal.loop-spot-preserved
loop-spot-preserved c =
    let xs = c.facts-spot-items.result.now in
    let i = c.loop-spot.spot-index in
    let s = c.spot-item.result in
    each-entered (take i xs) (take (i + 1) xs) s (take_more xs i s c.loop-spot-test.true ∙ ap (λ (x : Bor Spot). take i xs ++ x ∷ []) (sym c.spot-item.is))
    tuple_id_of c.loop-spot.tuples c.enter.new.holders c.loop-spot.invariant
    (subst (λ id. Entered c.loop-spot.tuples c.enter.new.holders id s) c.tuple_id_at.ensures c.in_ok-enter.ensures.ok)
