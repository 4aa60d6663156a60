use Rattle.std.proofs.Common.{◌<◌, ◌^◌, append_assoc, arith}
use Rattle.std.proofs.lemmas.Fmt.{decimal-digits_of}
use Rattle.std.proofs.lemmas.Result.{on_ok_weaker}
use Rattle.page_plain.proofs.prefixes.push_prefix.Goals as goal

pub returns : goal.returns
returns c =
    let small : c.args.number < 2 ^ 64 = omega arith in
    let digits = decimal-digits_of c.args.number c.requires small in
    on_ok_weaker c.push-2.result (λ h. grind (arith, h, digits, append_assoc, c.in_ok-push.ensures.ok, c.as_str.ensures.value, c.in_ok-digits.ensures.ok)) c.push-2.ensures.ok
