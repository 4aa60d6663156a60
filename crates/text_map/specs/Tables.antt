-- Tables in which texts are looked for.
use Rattle.std.specs.Prelude.{ℕ, ◌≤◌, ◌++◌, ◌∷◌, [], Bool, true, List, Option, Some, None, Vec, All, bytes_eq, length, nat_lt, slice_get, option_map}
use Rattle.std.specs.Global.{Global}
use Rattle.std.specs.Option.{option_map_or, unwrap_or}
use Rattle.indexmap.specs.IndexMap.{IndexMap, get_by, index_map_len}
use Rattle.text_map.specs.declared.class.TheConstants.{FULL}
use Rattle.text_map.specs.declared.key.Kept.{Kept}
use Rattle.text_map.specs.Hashes.{class_of}
use Rattle.text_map.specs.Keys.{bytes}

-- One table.

-- what a table has for a text
abbrev pub at : {V S : Type 0} → IndexMap Kept V S → List ℕ → Option V
at m q = get_by (λ k. bytes_eq q (bytes k)) m

-- the items that it has for a text
abbrev pub items_at : {T S : Type 0} → IndexMap Kept (Vec T Global) S → List ℕ → Option (List T)
items_at m q = option_map (λ v. v.items) (at m q)

-- items, with one more at their end
abbrev pub added : {T : Type 0} → T → Option (List T) → Option (List T)
added x o = Some (unwrap_or o [] ++ x ∷ [])

-- how many texts a table has
abbrev pub size : {V S : Type 0} → IndexMap Kept V S → ℕ
size m = index_map_len m

-- Tables by class.

-- what is to be said of a text and the table of its class
abbrev pub in_class : {X Y : Type 0} → (X → List ℕ → Y) → Y → List X → List ℕ → Y
in_class look d ts q = option_map_or (λ t. look t q) (slice_get ts (class_of q (length ts))) d

abbrev pub kept_at : {V S : Type 0} → List (IndexMap Kept V S) → List ℕ → Option V
kept_at ts q = in_class at None ts q

abbrev pub items_kept : {T S : Type 0} → List (IndexMap Kept (Vec T Global) S) → List ℕ → Option (List T)
items_kept ts q = in_class items_at None ts q

-- the table of its class has room for a text; without tables there is room
abbrev pub has_room : {V S : Type 0} → List (IndexMap Kept V S) → List ℕ → Bool
has_room ts q = in_class (λ t p. nat_lt (size t) FULL) true ts q

-- no table has more texts than it may
abbrev pub AreSmall : {V S : Type 0} → List (IndexMap Kept V S) → Type 0
AreSmall ts = All (λ t. size t ≤ FULL) ts
