-- Lists of elements that are kept by place.
use Rattle.std.specs.Prelude.{ℕ, Bool, true, false, ◌&&◌, ◌==◌, List, map, Option, Some, None, option_map}
use Rattle.indexmap.specs.IndexMap.{IndexMap, get_by}
use Rattle.ix_base.specs.LocatedElements.{Located}
use Rattle.id_table.specs.declared.slice.Slice.{Slice}
use Rattle.id_table.specs.Tables.{all_located}

-- whether a key is this place
abbrev pub is_key : ℕ → ℕ → ℕ × ℕ → Bool
is_key page offset k = (page == k.0) && (offset == k.1)

-- the elements that a slice has
abbrev pub spots_in : Slice → List Located
spots_in s = all_located s.spots.now

-- the elements that are kept at a place
abbrev pub slice_at : {S : Type 0} → IndexMap (ℕ × ℕ) Slice S → ℕ → ℕ → Option (List Located)
slice_at m page offset = option_map spots_in (get_by (is_key page offset) m)

-- the elements that are kept, each list with its place
abbrev pub lists_in : {S : Type 0} → IndexMap (ℕ × ℕ) Slice S → List ((ℕ × ℕ) × List Located)
lists_in m = map (λ e. (e.0, spots_in e.1)) m.entries

-- what was first stays
abbrev pub put_first : {X : Type 0} → Option X → Bool → X → Option X
put_first None true x = Some x
put_first None false x = None
put_first (Some y) b x = Some y
