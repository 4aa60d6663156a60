use Rattle.std.proofs.Common.{sym, ◌∙◌, ap}
use Rattle.std.proofs.lemmas.Bool.{eqb-true, eqb-false}
use Rattle.ix_base.specs.Decimals.{front_of, back_of}
use Rattle.scale_sign.proofs.Laws.{unsigned-test, unsigned-empty}
use Rattle.scale_sign.proofs.is_unsigned.Goals as goal

pub returns-then-are_empty : goal.returns-then-are_empty
returns-then-are_empty c =
    let v = c.as_bytes.ensures.value in
    let f = c.parts_of.ensures.front ∙ ap front_of v in
    let b = c.parts_of.ensures.back ∙ ap back_of v in
    unsigned-empty c.args.text.now _ _ f b (eqb-true _ _ (sym c.if-are_empty.ensures))

pub returns-else-are_empty : goal.returns-else-are_empty
returns-else-are_empty c =
    let v = c.as_bytes.ensures.value in
    let f = c.parts_of.ensures.front ∙ ap front_of v in
    let b = c.parts_of.ensures.back ∙ ap back_of v in
    unsigned-test c.args.text.now _ _ c.are_both_digits.result f b c.are_both_digits.ensures (eqb-false _ _ (sym c.if-are_empty.ensures))
