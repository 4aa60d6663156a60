use Rattle.std.proofs.Common.{◌<◌, ◌^◌, arith}
use Rattle.std.proofs.lemmas.Fmt.{decimal-digits_of}
use Rattle.instance_lines.proofs.prefix.own_prefix.Goals as goal

pub returns : goal.returns
returns c =
    let small : c.args.number < 2 ^ 64 = omega arith in
    let digits = decimal-digits_of c.args.number c.requires small in
    grind (arith, digits, c.in_ok-push.ensures.ok, c.as_str.ensures.value, c.in_ok-digits.ensures.ok, c.in_ok-prefix.ensures)
