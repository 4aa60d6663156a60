-- The number of facts that a word asks for.
use Rattle.std.specs.Prelude.{ℕ, ◌==◌, nat_le, Bool, false, not, ◌&&◌, List, [], ◌∷◌, Option, Some, None, if◌then◌else◌}
use Rattle.std.specs.List.{list_all}
use Rattle.ix_base.specs.Decimals.{number_in}
use Rattle.ix_base.specs.Forms.{is_digit}
use Rattle.ix_base.specs.declared.limits.TheConstants.{MOST_FACTS}

-- digits, of which the first is no 0
abbrev pub is_count : List ℕ → Bool
is_count [] = false
is_count (c ∷ cs) = not (c == 48) && list_all is_digit (c ∷ cs)

-- the number of facts that a word asks for: one from 1 to the most of a sample, in digits without a zero in front
abbrev pub sample_number : List ℕ → Option ℕ
sample_number word =
    if is_count word && nat_le 1 (number_in word) && nat_le (number_in word) MOST_FACTS then Some (number_in word) else None
