use Rattle.std.proofs.Common.{◌∙◌, ap, sym}
use Rattle.std.proofs.lemmas.Result.{IfOk-weaker}
use Rattle.ix_base.specs.Forms.{is_negative, is_unsigned}
use Rattle.value_forms.proofs.DecimalLaws.{unsigned_is}
use Rattle.footnotes.proofs.OrderLaws.{canonical-by, other-is}
use Rattle.footnotes.proofs.order.canonical_order.Goals as goal

pub written-requires : goal.written-requires
written-requires c = unsigned_is c.without_sign-digits.result.now (sym c.is_unsigned_decimal.ensures ∙ c.if-is_unsigned_decimal.true)

pub returns-then-is_unsigned_decimal : goal.returns-then-is_unsigned_decimal
returns-then-is_unsigned_decimal c =
    IfOk-weaker c.written.result _ _
    (canonical-by c.args.text.now c.without_sign-digits.result.now c.has_minus.result c.without_sign-digits.ensures (c.has_minus.ensures ∙ ap is_negative c.as_bytes.ensures.value)
    (sym c.is_unsigned_decimal.ensures ∙ c.if-is_unsigned_decimal.true)) c.written.ensures

pub returns-else-is_unsigned_decimal : goal.returns-else-is_unsigned_decimal
returns-else-is_unsigned_decimal c =
    IfOk-weaker c.of.result _ _
    (λ t e. e ∙ other-is c.args.text.now (sym (ap is_unsigned c.without_sign-digits.ensures) ∙ sym c.is_unsigned_decimal.ensures ∙ c.if-is_unsigned_decimal.false)) c.of.ensures
