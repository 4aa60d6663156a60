use Rattle.std.proofs.Common.{◌∙◌, ap, sym}
use Rattle.ix_base.specs.LocatedElements.{located}
use Rattle.continuations.specs.Nesting.{is_around}
use Rattle.continuations.proofs.Nesting.{nested-at, none-more}
use Rattle.continuations.proofs.nested.any_within.Goals as goal

pub returns-then-stands_within : goal.returns-then-stands_within
returns-then-stands_within c =
    let s = c.spot-item.result in
    sym (nested-at c.put_places.new.places.items c.args.spots.now c.loop-spot.spot-index s c.in_ok-put_places.ensures.places c.loop-spot-test.true c.spot-item.is
    (sym (c.stands_within.ensures ∙ ap (λ keys. is_around keys (located s.now)) c.as_slice.ensures.value) ∙ c.if-stands_within.true))

pub loop-spot-preserved : goal.loop-spot-preserved
loop-spot-preserved c =
    let s = c.spot-item.result in
    none-more (is_around c.put_places.new.places.items) c.args.spots.now c.loop-spot.spot-index s c.loop-spot-test.true c.spot-item.is c.loop-spot.invariant
    (sym (c.stands_within.ensures ∙ ap (λ keys. is_around keys (located s.now)) c.as_slice.ensures.value) ∙ c.if-stands_within.false)
