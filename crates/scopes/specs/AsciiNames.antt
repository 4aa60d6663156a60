-- Names of ASCII characters alone.
use Rattle.std.specs.Prelude.{ℕ, nat_lt, Bool, false, ◌&&◌, List, [], ◌∷◌}
use Rattle.std.specs.List.{list_all}
use Rattle.ix_base.specs.NcName.{is_name_start, is_name_char}

abbrev pub is_start : ℕ → Bool
is_start c = nat_lt c 128 && is_name_start c

abbrev pub is_char : ℕ → Bool
is_char c = nat_lt c 128 && is_name_char c

abbrev pub is_ascii_name : List ℕ → Bool
is_ascii_name [] = false
is_ascii_name (c ∷ cs) = is_start c && list_all is_char cs
