-- What is bound in a scope, in byte order of the prefixes (Namespaces in XML 1.0, section 6), and where a prefix stands in one.
use Rattle.std.specs.Prelude.{ℕ, zero, suc, Bool, true, false, ◌&&◌, ◌||◌, List, [], ◌∷◌, if◌then◌else◌, bytes_eq}
use Rattle.std.specs.List.{list_all}
use Rattle.std.specs.Ordering.{nat_cmp, is_lt}
use Rattle.std.specs.Cmp.Lexicographic.{slice_cmp}
use Rattle.ix_base.specs.declared.tree.Binding.{Binding}

pub record Bound : Type 0 where
  pub prefix : List ℕ
  pub ns : List ℕ

abbrev pub bound : Binding → Bound
bound b = record { prefix = b.prefix.now; ns = b.ns.now }

abbrev pub is_below : List ℕ → List ℕ → Bool
is_below p q = is_lt (slice_cmp nat_cmp p q)

-- each prefix comes before all those behind it
abbrev pub are_ordered : List Bound → Bool
are_ordered [] = true
are_ordered (b ∷ scope) = list_all (λ x. is_below b.prefix x.prefix) scope && are_ordered scope

-- the index of the first binding whose prefix is this one or above it
abbrev pub place_of : List Bound → List ℕ → ℕ
place_of [] prefix = 0
place_of (x ∷ scope) prefix = if bytes_eq x.prefix prefix || is_below prefix x.prefix then 0 else suc (place_of scope prefix)

-- the prefix is bound at this index
abbrev pub has_at : List Bound → ℕ → List ℕ → Bool
has_at [] at prefix = false
has_at (x ∷ scope) zero prefix = bytes_eq x.prefix prefix
has_at (x ∷ scope) (suc at) prefix = has_at scope at prefix
