use Rattle.std.proofs.Common.{◌≡◌, ◌∙◌, ap, arith, drop, length, map, subst, sym, Some}
use Rattle.std.specs.List.{range_with_len}
use Rattle.std.specs.List.Sorted.{IsPermutation}
use Rattle.reordering.proofs.Exchanging.{from-places, take-written}
use Rattle.reordering.proofs.Placing.{length-order}
use Rattle.reordering.proofs.reorder.put_in_order.Goals as goal

pub places_in-requires : goal.places_in-requires
places_in-requires g c =
    let counted : c.args.things.now.len ≡ length c.as_slice.result.now =
    sym (ap length c.as_slice.ensures.value ∙ length-order _ c.args.order.items c.requires) in
    subst (λ n. IsPermutation (range_with_len 0 n) c.as_slice.result.now) counted
    (rw c.as_slice.ensures.value c.requires)

pub exchange-requires-clause-len : goal.exchange-requires-clause-len
exchange-requires-clause-len g c =
    c.as_mut_slice.ensures.len ∙ sym (length-order _ c.args.order.items c.requires) ∙ ap length (sym c.as_mut_slice-2.ensures.value)

pub returns : goal.returns
returns g c =
    let things = c.as_mut_slice.result.now in
    let order = c.as_mut_slice-2.result.now in
    let counted : length things ≡ length order =
    c.as_mut_slice.ensures.len ∙ sym (length-order _ c.args.order.items c.requires) ∙ ap length (sym c.as_mut_slice-2.ensures.value) in
    let kept : length c.exchange.new.things ≡ length things = c.exchange.auto.things in
    ap (map Some) (take-written _ c.exchange.new.things (drop (length c.exchange.new.things) c.args.things.now.items) (kept ∙ c.as_mut_slice.ensures.len))
    ∙ from-places things c.exchange.new.things order (kept ∙ counted) (λ k h. c.exchange.ensures k (omega arith))
    ∙ (rw (c.as_mut_slice.ensures.value, c.as_mut_slice-2.ensures.value))
