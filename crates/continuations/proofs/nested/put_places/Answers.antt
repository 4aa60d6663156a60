use Rattle.std.proofs.Common.{◌∙◌, ap, sym, List}
use Rattle.std.proofs.lemmas.List.{take_all}
use Rattle.std.proofs.lemmas.List.Sorted.{list_any-IsPermutation}
use Rattle.std.specs.Borrow.{Bor}
use Rattle.std.specs.List.{list_any}
use Rattle.ix_base.specs.declared.tree.Spot.{Spot}
use Rattle.ix_base.specs.LinkRules.{is_at}
use Rattle.id_table.specs.Tables.{all_located}
use Rattle.id_table.specs.Slices.{is_key}
use Rattle.continuations.proofs.Nesting.{places-more}
use Rattle.continuations.proofs.nested.put_places.Goals as goal

pub returns-clause-places : goal.returns-clause-places
returns-clause-places c = λ page offset.
    sym (list_any-IsPermutation (is_key page offset) c.loop-spot.places.items c.sort_unstable.new.self.items c.sort_unstable.ensures.permutation)
    ∙ c.loop-spot.invariant page offset
    ∙ ap (λ (spots : List (Bor Spot)). list_any (is_at page offset) (all_located spots)) (take_all c.loop-spot.spot-index c.args.spots.now c.loop-spot-test.false)

pub loop-spot-init : goal.loop-spot-init
loop-spot-init c = λ page offset. ap (list_any (is_key page offset)) c.clear.ensures.items

pub loop-spot-preserved : goal.loop-spot-preserved
loop-spot-preserved c = λ page offset. ap (list_any (is_key page offset)) c.in_ok-push.ensures.items
    ∙ places-more page offset c.loop-spot.places.items c.args.spots.now c.loop-spot.spot-index c.spot-item.result c.place_of.result c.loop-spot-test.true c.spot-item.is (c.place_of.ensures page offset) (c.loop-spot.invariant page offset)
