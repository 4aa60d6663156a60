use Rattle.std.proofs.Common.{◌∙◌, ◌++◌, ap, subst, sym}
use Rattle.std.specs.Prelude.{◌&&◌, ◌==◌, not}
use Rattle.ix_base.specs.Decimals.{AreDigits, number_in, front_of, back_of}
use Rattle.ix_base.specs.Forms.{unsigned_of, is_negative}
use Rattle.tuples.specs.DecimalOrder.{signed_cmp, size_cmp}
use Rattle.tuples.proofs.OrderLaws.{decimal-is, parts-digits}
use Rattle.tuples.proofs.decimals.decimal_cmp.Goals as goal

pub is_negative-requires : goal.is_negative-requires
is_negative-requires c =
    let u = c.unsigned_of.ensures ∙ ap unsigned_of c.as_bytes.ensures.value in
    subst AreDigits (sym (λ i. (c.parts_of.ensures.front ∙ ap front_of u) i ++ (c.parts_of.ensures.back ∙ ap back_of u) i)) (parts-digits c.args.x.now c.requires.x)

pub is_negative-requires-2 : goal.is_negative-requires-2
is_negative-requires-2 c =
    let u = c.unsigned_of-2.ensures ∙ ap unsigned_of c.as_bytes-2.ensures.value in
    subst AreDigits (sym (λ i. (c.parts_of-2.ensures.front ∙ ap front_of u) i ++ (c.parts_of-2.ensures.back ∙ ap back_of u) i)) (parts-digits c.args.y.now c.requires.y)

pub returns : goal.returns
returns c =
    let u = c.unsigned_of.ensures ∙ ap unsigned_of c.as_bytes.ensures.value in
    let v = c.unsigned_of-2.ensures ∙ ap unsigned_of c.as_bytes-2.ensures.value in
    let f = c.parts_of.ensures.front ∙ ap front_of u in
    let b = c.parts_of.ensures.back ∙ ap back_of u in
    let g = c.parts_of-2.ensures.front ∙ ap front_of v in
    let d = c.parts_of-2.ensures.back ∙ ap back_of v in
    let m = c.has_minus.ensures ∙ ap is_negative c.as_bytes-3.ensures.value in
    let n = c.has_minus-2.ensures ∙ ap is_negative c.as_bytes-4.ensures.value in
    c.signed_cmp.ensures
    ∙ (λ i. signed_cmp (c.is_negative.ensures i) (c.is_negative-2.ensures i) (c.size_cmp.ensures i) (c.size_cmp-2.ensures i))
    ∙ (λ i. signed_cmp (m i && not (number_in (f i ++ b i) == 0)) (n i && not (number_in (g i ++ d i) == 0)) (size_cmp (f i) (b i) (g i) (d i)) (size_cmp (g i) (d i) (f i) (b i)))
    ∙ decimal-is c.args.x.now c.args.y.now c.requires.x c.requires.y
