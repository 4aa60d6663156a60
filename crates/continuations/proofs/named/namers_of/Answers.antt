use Rattle.std.proofs.Common.{◌∙◌, ◌++◌, ◌+◌, ◌∷◌, [], ap, length, subst, sym, take, List}
use Rattle.std.proofs.lemmas.List.{take_all, take_more}
use Rattle.std.specs.Borrow.{Bor}
use Rattle.std.specs.List.{filter}
use Rattle.ix_base.specs.declared.tree.Spot.{Spot}
use Rattle.ix_base.specs.Asks.{asks}
use Rattle.ix_base.specs.Chain.{continued_at}
use Rattle.ix_base.specs.LinkRules.{goes_on_at}
use Rattle.ix_base.specs.LocatedElements.{Located, located}
use Rattle.id_table.specs.Tables.{Entered}
use Rattle.id_table.proofs.Asking.{count-map}
use Rattle.id_table.proofs.Entering.{each-entered}
use Rattle.continuations.proofs.named.namers_of.Goals as goal

pub returns : goal.returns
returns c = λ q.
    ap length (c.loop-spot.invariant q)
    ∙ ap (λ xs. length (filter (λ s. goes_on_at q (located s.now)) xs)) (take_all c.loop-spot.spot-index c.spots-spot-items.result.now c.loop-spot-test.false)
    ∙ count-map (λ s. located s.now) (goes_on_at q) c.spots-spot-items.result.now
    ∙ ap (λ (es : List Located). (asks es).count (goes_on_at q)) c.spots-spot-items.ensures.elements

pub loop-spot-preserved : goal.loop-spot-preserved
loop-spot-preserved c =
    let xs = c.spots-spot-items.result.now in
    let i = c.loop-spot.spot-index in
    let s = c.spot-item.result in
    each-entered (take i xs) (take (i + 1) xs) s (take_more xs i s c.loop-spot-test.true ∙ ap (λ (x : Bor Spot). take i xs ++ x ∷ []) (sym c.spot-item.is))
    continued_at c.loop-spot.namers c.enter.new.holders c.loop-spot.invariant
    (subst (λ id. Entered c.loop-spot.namers c.enter.new.holders id s) c.continued_at.ensures c.in_ok-enter.ensures.ok)
