-- Members that are kept, as contracts see them.
use Rattle.std.proofs.Common.{◌≡◌, ◌∙◌, ℕ, List, [], ◌∷◌, refl, ap, Option, Some, None, option_map}
use Rattle.std.proofs.lemmas.Map.Made.{lookup-map_values}
use Rattle.std.specs.Borrow.{Bor}
use Rattle.std.specs.Global.{Global}
use Rattle.std.specs.Map.{lookup}
use Rattle.std.specs.Option.{option_map_or}
use Rattle.std.specs.Prelude.{Vec, bytes_eq}
use Rattle.indexmap.specs.IndexMap.{IndexMap}
use Rattle.text_map.specs.Texts.{Texts}
use Rattle.ix_base.specs.Asks.{Asks, only}
use Rattle.ix_base.specs.Ids.{one_tuple}
use Rattle.ix_base.specs.LocatedElements.{Located, located}
use Rattle.ix_base.specs.Membership as member
use Rattle.ix_base.specs.declared.tree.Spot.{Spot}
use Rattle.id_table.specs.declared.slice.Slice.{Slice}
use Rattle.id_table.specs.Slices.{lists_in, slice_at}
use Rattle.id_table.specs.Tables.{all_located, spots_at}
use Rattle.id_table.proofs.SliceLaws.{lookup-lists_in}
use Rattle.tuples.specs.Model.{Kept, listed, owner_by, tuple_at, tuples_in}

pub listed-is : {S : Type 0} (m : IndexMap (ℕ × ℕ) Slice S) (ts : List (List ℕ × List Located)) (page offset : ℕ)
    → listed (record { lists = lists_in m; tuples = ts }) page offset ≡ option_map_or (λ l. l) (slice_at m page offset) []
listed-is m ts page offset = ap (λ o. option_map_or (λ l. l) o []) (lookup-lists_in m page offset)

only-map : (xs : List (Bor Spot)) → only (all_located xs) ≡ option_map (λ s. located s.now) (only xs)
only-map [] = refl
only-map (x ∷ []) = refl
only-map (x ∷ y ∷ xs) = refl

one-of : (o : Option (Vec (Bor Spot) Global))
    → only (option_map_or (λ l. l) (option_map (λ (w : Vec (Bor Spot) Global). all_located w.items) o) []) ≡ option_map (λ s. located s.now) (only (option_map_or (λ (w : Vec (Bor Spot) Global). w.items) o []))
one-of None = refl
one-of (Some v) = only-map v.items

pub tuple-is : (m : Texts (Vec (Bor Spot) Global)) (ls : List ((ℕ × ℕ) × List Located)) (id : List ℕ)
    → tuple_at (record { lists = ls; tuples = tuples_in m }) id ≡ option_map (λ s. located s.now) (only (spots_at m id))
tuple-is m ls id = ap (λ o. only (option_map_or (λ l. l) o [])) (lookup-map_values (λ (w : Vec (Bor Spot) Global). all_located w.items) (bytes_eq id) m) ∙ one-of (lookup (bytes_eq id) m)

-- owners by tables in which the one tuple stands at each tuple id
pub owner-same : (k : Kept) (a : Asks Located) → ((id : List ℕ) → tuple_at k id ≡ one_tuple a id) → (e : Located) (o : Option (List ℕ)) → owner_by k e o ≡ member.owner_by a e o
owner-same k a h e None = refl
owner-same k a h e (Some id) = h id

pub placed-map : (o : Option (Bor Spot)) → option_map (λ (s : Bor Spot). (located s.now).placed) o ≡ option_map (λ (e : Located). e.placed) (option_map (λ (s : Bor Spot). located s.now) o)
placed-map None = refl
placed-map (Some s) = refl
