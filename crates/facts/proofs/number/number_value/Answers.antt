use Rattle.std.proofs.Common.{◌≡◌, option_map, ℤ, subst, w32, to_z, of_z, rules}
use Rattle.ix_base.specs.Trees.{named}
use Rattle.scale_sign.specs.Scaled.{IsNumber}
use Rattle.facts.proofs.ValueLaws.{unsigned_digits}
use Rattle.facts.proofs.number.number_value.Goals as goal

pub moved-requires-clause-unsigned : goal.moved-requires-clause-unsigned
moved-requires-clause-unsigned c =
    rw (c.as_str.ensures)
    (unsigned_digits (option_map named c.args.format) c.args.text.now _ c.in_ok-digits.ensures)

pub returns : goal.returns
returns c =
    let same : to_z w32 (of_z w32 c.args.scale) ≡ c.args.scale = search rules in
    let digits = c.in_ok-digits.digits in (
      digits,
      c.in_ok-digits.ensures,
      subst (λ (z : ℤ). IsNumber digits z c.args.negative c.in_ok-moved.field-0) same (rw c.as_str.ensures at c.in_ok-moved.ensures),
    )
