-- Texts, each with what is kept for it.
use Rattle.std.specs.Prelude.{ℕ, ◌≡◌, List, [], Option, Vec, bytes_eq, if◌then◌else◌}
use Rattle.std.specs.Global.{Global}
use Rattle.std.specs.Map.{lookup}
use Rattle.std.specs.Option.{option_map_or}

abbrev pub Texts : Type 0 → Type 0
Texts V = List (List ℕ × V)

-- what is kept for a text
abbrev pub get_in : {V : Type 0} → Texts V → List ℕ → Option V
get_in m q = lookup (bytes_eq q) m

-- the items that are kept for a text
abbrev pub items_in : {T : Type 0} → Texts (Vec T Global) → List ℕ → List T
items_in m q = option_map_or (λ v. v.items) (get_in m q) []

-- this is kept for a text, and for every other what was
abbrev pub IsSet : {V : Type 0} → Texts V → Texts V → List ℕ → Option V → Type 0
IsSet old new text value = (q : List ℕ) → get_in new q ≡ (if bytes_eq q text then value else get_in old q)
