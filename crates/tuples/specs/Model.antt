-- What is to be known of the members of a set: each list with the place of its tuple, and the tuples with each tuple id.
use Rattle.std.specs.Prelude.{ℕ, ◌≡◌, List, [], map, Option, Some, None, bytes_eq, Vec, refl}
use Rattle.std.specs.Borrow.{Bor}
use Rattle.std.specs.Coded.{Coded, code_by, coded×, coded_ℕ, coded_list}
use Rattle.std.specs.Global.{Global}
use Rattle.std.specs.Map.{lookup}
use Rattle.std.specs.Option.{option_map_or}
use Rattle.text_map.specs.Texts.{Texts}
use Rattle.ix_base.specs.Asks.{asks, only}
use Rattle.ix_base.specs.LocatedElements.{Located, offset_of}
use Rattle.ix_base.specs.Membership.{members, nearest_tuple, owner, tuple_ref_of}
use Rattle.ix_base.specs.declared.tree.Spot.{Spot}
use Rattle.id_table.specs.ModelCodes.{located_code}
use Rattle.id_table.specs.Slices.{is_key}
use Rattle.id_table.specs.Tables.{all_located, spots_at, AreOnOwnPages}

pub record Kept : Type 0 where
  pub lists : List ((ℕ × ℕ) × List Located)
  pub tuples : List (List ℕ × List Located)

-- the members of the tuple at a place
abbrev pub listed : Kept → ℕ → ℕ → List Located
listed k page offset = option_map_or (λ l. l) (lookup (is_key page offset) k.lists) []

-- the one tuple at a tuple id
abbrev pub tuple_at : Kept → List ℕ → Option Located
tuple_at k id = only (option_map_or (λ l. l) (lookup (bytes_eq id) k.tuples) [])

abbrev pub owner_by : Kept → Located → Option (List ℕ) → Option Located
owner_by k e None = nearest_tuple e.page e.placed.above
owner_by k e (Some id) = tuple_at k id

-- the owner of a fact
abbrev pub owner_in : Kept → Located → Option Located
owner_in k e = owner_by k e (tuple_ref_of e)

-- at each place the members of the tuple there, and for each of these elements its owner
pub record AreMembersOf (k : Kept) (es : List Located) : Type 0 where
  pub members : (t : Located) → listed k t.page (offset_of t) ≡ members es t
  pub owners : (e : Located) → owner_in k e ≡ owner (asks es) e

-- what stands above each spot of the table is of its page
abbrev pub AreAllOnOwnPages : Texts (Vec (Bor Spot) Global) → Type 0
AreAllOnOwnPages m = (id : List ℕ) → AreOnOwnPages (spots_at m id)

-- tuples by their tuple ids
abbrev pub tuples_in : Texts (Vec (Bor Spot) Global) → List (List ℕ × List Located)
tuples_in m = map (λ e. (e.0, all_located e.1.items)) m

abbrev pub kept_code : Coded Kept
kept_code = code_by (List ((ℕ × ℕ) × List Located) × List (List ℕ × List Located))
    (coded× (coded_list (coded× (coded× coded_ℕ coded_ℕ) (coded_list located_code)))
    (coded_list (coded× (coded_list coded_ℕ) (coded_list located_code))))
    (λ k. (k.lists, k.tuples)) (λ p. record { lists = p.0; tuples = p.1 }) (λ _. refl)
