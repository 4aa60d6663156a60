use Rattle.scale_sign.proofs.Digits.{AreDigits-left, AreDigits-right}
use Rattle.scale_sign.proofs.Laws.{sign-front, sign-back}
use Rattle.scale_sign.proofs.parts.is_negative.Goals as goal

pub has_value-requires : goal.has_value-requires
has_value-requires c = AreDigits-left c.args.front.now c.args.back.now c.requires

pub has_value-requires-else-has_value : goal.has_value-requires-else-has_value
has_value-requires-else-has_value c = AreDigits-right c.args.front.now c.args.back.now c.requires

pub returns-then-has_value : goal.returns-then-has_value
returns-then-has_value c = sign-front c.args.has_minus c.args.front.now c.args.back.now c.has_value.result c.if-has_minus.true c.if-has_value.true c.has_value.ensures

pub returns-else-has_value : goal.returns-else-has_value
returns-else-has_value c = sign-back c.args.has_minus c.args.front.now c.args.back.now c.has_value.result _ c.if-has_minus.true c.if-has_value.false c.has_value.ensures c.has_value-else-has_value.ensures
