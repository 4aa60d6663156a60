-- White space is ASCII.
use Rattle.std.proofs.Common.{◌≡◌, ◌<◌, true, ℕ, arith}
use Rattle.std.proofs.lemmas.Grind.{common_steps}
use Rattle.ix_base.specs.NcName.{is_white}

pub white_low : (c : ℕ) → is_white c ≡ true → c < 128
white_low c e = grind (arith, common_steps)
