use Rattle.std.proofs.Common.{sym, ◌∙◌}
use Rattle.scale_sign.proofs.Digits.{AreDigits-append, AreDigits-left, AreDigits-right, are-digits, digits-are}
use Rattle.scale_sign.proofs.parts.are_both_digits.Goals as goal

pub returns-then-all_digits : goal.returns-then-all_digits
returns-then-all_digits c =
    let f = c.args.front.now in let b = c.args.back.now in (
      λ r. AreDigits-append f b (digits-are f (sym c.all_digits.ensures ∙ c.if-all_digits.true)) (digits-are b (sym c.all_digits-then-all_digits.ensures ∙ r)),
      λ d. c.all_digits-then-all_digits.ensures ∙ are-digits b (AreDigits-right f b d),
    )

pub returns-else-all_digits : goal.returns-else-all_digits
returns-else-all_digits c =
    let f = c.args.front.now in let b = c.args.back.now in
    (λ r. absurd (let t = c.if-all_digits.false in cc), λ d. c.all_digits.ensures ∙ are-digits f (AreDigits-left f b d))
