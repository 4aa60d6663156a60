-- Lists of elements that are kept by place.
use Rattle.std.proofs.Common.{◌≡◌, ◌∙◌, ℕ, Bool, true, false, cond, List, refl, ap, sym, Option, Some, None, option_map, eqb→eq, subst}
use Rattle.std.proofs.Math.Dec.{T}
use Rattle.std.proofs.lemmas.Map.Made.{lookup-map_values}
use Rattle.std.specs.Map.{lookup}
use Rattle.std.specs.Prelude.{◌&&◌, ◌==◌, is_some}
use Rattle.indexmap.specs.IndexMap.{IndexMap}
use Rattle.ix_base.specs.LocatedElements.{Located}
use Rattle.id_table.specs.declared.slice.Slice.{Slice}
use Rattle.id_table.specs.Slices.{is_key, lists_in, put_first, slice_at, spots_in}

entered-by : (old new : Option (List Located)) (b : Bool) (x : List Located) → (b ≡ true → old ≡ None) → new ≡ cond b (Some x) old → new ≡ put_first old b x
entered-by old new true x h n = n ∙ sym (ap (λ o. put_first o true x) (h refl))
entered-by None new false x h n = n
entered-by (Some y) new false x h n = n

option_map-cond : {X Y : Type 0} (f : X → Y) (b : Bool) (o p : Option X) → option_map f (cond b o p) ≡ cond b (option_map f o) (option_map f p)
option_map-cond f true o p = refl
option_map-cond f false o p = refl

pub none-of : {X : Type 0} (o : Option X) → is_some o ≡ false → o ≡ None
none-of None h = refl
none-of (Some x) h = absurd (cc)

both : (a b : Bool) → (a && b) ≡ true → (a ≡ true) × (b ≡ true)
both true b h = (refl, h)
both false b h = absurd (cc)

same-nat : (m n : ℕ) → (m == n) ≡ true → m ≡ n
same-nat m n e = eqb→eq m n (subst T (sym e) tt)

pub same-key : {X : Type 0} (f : ℕ → ℕ → X) (k l page offset : ℕ) → ((k == page) && (l == offset)) ≡ true → f k l ≡ f page offset
same-key f k l page offset e =
    let p : (k == page) ≡ true = (both (k == page) (l == offset) e).0 in
    let q : (l == offset) ≡ true = (both (k == page) (l == offset) e).1 in
    λ i. f (same-nat k page p i) (same-nat l offset q i)

pub slice-entered : (old new : Option Slice) (b : Bool) (x : Slice) → (b ≡ true → option_map spots_in old ≡ None) → new ≡ cond b (Some x) old
    → option_map spots_in new ≡ put_first (option_map spots_in old) b (spots_in x)
slice-entered old new b x h n =
    entered-by (option_map spots_in old) _ b (spots_in x) h (ap (option_map spots_in) n ∙ option_map-cond spots_in b (Some x) old)

-- the list at a place, among all with their places
pub lookup-lists_in : {S : Type 0} (m : IndexMap (ℕ × ℕ) Slice S) (page offset : ℕ) → lookup (is_key page offset) (lists_in m) ≡ slice_at m page offset
lookup-lists_in m page offset = lookup-map_values spots_in (is_key page offset) m.entries
