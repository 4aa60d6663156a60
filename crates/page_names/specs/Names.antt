-- Which texts name pages.
use Rattle.std.specs.Prelude.{ℕ, ◌==◌, ◌&&◌, ◌||◌, Bool, false, not, nat_lt, nat_le, List, [], ◌∷◌, length, bytes_eq}
use Rattle.std.specs.List.{list_all, list_any}
use Rattle.ix_base.specs.declared.limits.TheConstants.{LONGEST_NAME}

-- no character below U+0020, and no U+007F
abbrev pub may_stand_in_name : ℕ → Bool
may_stand_in_name b = nat_le 32 b && not (b == 127)

abbrev pub is_page_name : List ℕ → Bool
is_page_name n = nat_lt 0 (length n) && nat_le (length n) LONGEST_NAME && list_all may_stand_in_name n

-- a name stands twice
unfoldable pub has_repeat : List (List ℕ) → Bool
has_repeat [] = false
has_repeat (name ∷ rest) = list_any (bytes_eq name) rest || has_repeat rest
