-- Where texts stand.
use Rattle.std.specs.Prelude.{ℕ, ◌+◌, ◌≤◌, ◌++◌, ◌∷◌, [], List, Option, Vec, filter, is_some, length, map, nat_lt, ◌==◌, if◌then◌else◌, option_map}
use Rattle.std.specs.BTreeMap.{BTreeMap, get_by}
use Rattle.std.specs.Borrow.{Bor}
use Rattle.std.specs.Cmp.Lexicographic.{slice_cmp}
use Rattle.std.specs.Global.{Global}
use Rattle.std.specs.Option.{option_or}
use Rattle.std.specs.Ordering.{nat_cmp}
use Rattle.indexmap.specs.IndexMap.{IndexMap}
use Rattle.text_map.specs.declared.tables.TheConstants.{FEW}
use Rattle.text_map.specs.declared.tables.Place.{Place}
use Rattle.text_map.specs.declared.tables.Place.TheVariants.{First, Class, Rest}
use Rattle.text_map.specs.declared.tables.Tables.{Tables}
use Rattle.text_map.specs.declared.key.Kept.{Kept}
use Rattle.text_map.specs.Hashes.{class_of}
use Rattle.text_map.specs.Keys.{bytes}
use Rattle.text_map.specs.Tables.{AreSmall, at, has_room, kept_at, size}
use Rattle.text_map.specs.Texts.{Texts}

-- what those in order have for a text
abbrev pub rest_at : {V : Type 0} → BTreeMap (Bor (List ℕ)) V → List ℕ → Option V
rest_at m q = get_by (λ k. slice_cmp nat_cmp q k.now) m

abbrev pub items_at_rest : {T : Type 0} → BTreeMap (Bor (List ℕ)) (Vec T Global) → List ℕ → Option (List T)
items_at_rest m q = option_map (λ v. v.items) (rest_at m q)

-- the first of three that has something
abbrev pub any_of : {Y : Type 0} → Option Y → Option Y → Option Y → Option Y
any_of x y z = option_or x (option_or y z)

-- what the tables have for a text
abbrev pub found : {V : Type 0} → Tables V → List ℕ → Option V
found t q = any_of (kept_at t.classes.items q) (at t.first q) (rest_at t.rest q)

abbrev pub items_found : {T : Type 0} → Tables (Vec T Global) → List ℕ → Option (List T)
items_found t q = option_map (λ v. v.items) (found t q)

-- where there is room for a text
abbrev pub free_place : {V : Type 0} → Tables V → List ℕ → Place
free_place t q = if nat_lt (size t.first) FEW then First else (if has_room t.classes.items q then Class else Rest)

-- where a text stands, or else where there is room for it
abbrev pub place_of : {V : Type 0} → Tables V → List ℕ → Place
place_of t q =
    if is_some (kept_at t.classes.items q) then Class
    else (if is_some (at t.first q) then First else (if is_some (rest_at t.rest q) then Rest else free_place t q))

-- no table has more texts than it may
pub record IsBounded {V : Type 0} (t : Tables V) : Type 0 where
  pub first : size t.first ≤ FEW
  pub classes : AreSmall t.classes.items

-- The texts that stand in tables.

-- entries, each with its text
abbrev pub texts_by : {K V : Type 0} → (K → List ℕ) → List (K × V) → Texts V
texts_by text es = map (λ e. (text e.0, e.1)) es

-- those of tables by class, from this class on: the texts of each class in its table
abbrev pub texts_from : {V S : Type 0} → ℕ → ℕ → List (IndexMap Kept V S) → Texts V
texts_from n i [] = []
texts_from n i (t ∷ ts) = filter (λ e. class_of e.0 n == i) (texts_by bytes t.entries) ++ texts_from n (i + 1) ts

-- the texts of all tables
abbrev pub texts_in : {V : Type 0} → Tables V → Texts V
texts_in t =
    texts_from (length t.classes.items) 0 t.classes.items ++ texts_by bytes t.first.entries
    ++ texts_by (λ (k : Bor (List ℕ)). k.now) t.rest.entries
