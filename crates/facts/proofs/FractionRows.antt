-- Worked fractions.
use Rattle.std.proofs.Common.{◌≡◌, refl, codes, Ok, Err}
use Rattle.ix_base.specs.declared.content.Value.TheVariants.{Fraction}
use Rattle.ix_base.specs.declared.rule.Rule.TheVariants.{V1, V2, V3, V4, V5}
use Rattle.facts.specs.FractionValue.{fraction}

a_third : fraction (Ok (codes "1")) (Ok (codes "3")) ≡ Ok (Fraction (codes "1") (codes "3"))
a_third = refl

over_zero : fraction (Ok (codes "1")) (Ok (codes "0")) ≡ Err V5
over_zero = refl

below_zero : fraction (Err V3) (Ok (codes "0")) ≡ Err V3
below_zero = refl

lower_below : fraction (Err V2) (Err V1) ≡ Err V1
lower_below = refl

lower_above : fraction (Err V2) (Err V4) ≡ Err V2
lower_above = refl
