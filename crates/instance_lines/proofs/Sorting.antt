-- What a sort leaves.
use Rattle.std.proofs.Common.{◌≡◌, ℕ, List, [], ◌∷◌, map, refl, sym, ap, ◌∙◌}
use Rattle.std.specs.List.Sorted.{IsSorted, IsPermutation}
use Rattle.std.specs.declared.cmp.Ordering.{Ordering}
use Rattle.std.specs.declared.cmp.Ordering.TheVariants.{Less, Equal, Greater}
use Rattle.std.specs.Ordering.{on}
use Rattle.std.proofs.lemmas.Cmp.{nat_list_cmp_total}
use Rattle.std.proofs.lemmas.List.Sorted.{IsPermutation-append, IsPermutation-append_comm, IsPermutation-cons, IsPermutation-refl, IsPermutation-trans}
use Rattle.ix_base.specs.Once.{put as put_once, put_by as put_once_by, in_order}
use Rattle.ix_base.specs.SortedLists.{put, put_by, sorted, text_cmp}
use Rattle.ix_base.specs.WrittenMarkup.{Markup}
use Rattle.instance_lines.specs.Canonical.{line, line_cmp}
use Rattle.instance_lines.specs.Keys.{by_key}
use Rattle.instance_lines.specs.declared.sort.Keyed.{Keyed}
use Rattle.ix_base.proofs.OnceOrdered.{same_text}
use Rattle.ix_base.proofs.SortedLemmas.{sorted-same, sorted-is}

map_same : {X : Type 0} (xs : List X) → map (λ (x : X). x) xs ≡ xs
map_same [] = refl
map_same (x ∷ xs) = ap (λ l. x ∷ l) (map_same xs)

-- texts that are moved into order are the sorted ones
pub sorted_texts : (xs ys : List (List ℕ)) → IsPermutation xs ys → IsSorted text_cmp ys → ys ≡ sorted text_cmp xs
sorted_texts xs ys moved up =
    sym (sorted-same nat_list_cmp_total xs ys (λ x y h k. same_text x y) moved
    ∙ ap (sorted text_cmp) (sym (map_same ys)) ∙ sorted-is nat_list_cmp_total (λ (x : List ℕ). x) ys up ∙ map_same ys)

module _ {X Y : Type 0} (f : X → Y) (R : Y → Y → Ordering) where
  map-put_by : (r : Ordering) (x y : X) (ys behind : List X) (zs : List Y) → zs ≡ map f behind → put_by r (f x) (f y) (map f ys) zs ≡ map f (put_by r x y ys behind)
  map-put_by Less x y ys behind zs e = refl
  map-put_by Equal x y ys behind zs e = refl
  map-put_by Greater x y ys behind zs e = ap (λ l. f y ∷ l) e

  map-put : (x : X) (ys : List X) → put R (f x) (map f ys) ≡ map f (put (on f R) x ys)
  map-put x [] = refl
  map-put x (y ∷ ys) = map-put_by (R (f x) (f y)) x y ys (put (on f R) x ys) (put R (f x) (map f ys)) (map-put x ys)

  -- what is sorted by what f makes of it
  pub sorted-map : (xs : List X) → sorted R (map f xs) ≡ map f (sorted (on f R) xs)
  unfolding sorted
  sorted-map [] = refl
  sorted-map (x ∷ xs) = ap (put R (f x)) (sorted-map xs) ∙ map-put x (sorted (on f R) xs)

  map-put_once_by : (r : Ordering) (x y : X) (ys behind : List X) (zs : List Y) → zs ≡ map f behind → put_once_by r (f x) (f y) (map f ys) zs ≡ map f (put_once_by r x y ys behind)
  map-put_once_by Less x y ys behind zs e = refl
  map-put_once_by Equal x y ys behind zs e = refl
  map-put_once_by Greater x y ys behind zs e = ap (λ l. f y ∷ l) e

  map-put_once : (x : X) (ys : List X) → put_once R (f x) (map f ys) ≡ map f (put_once (on f R) x ys)
  map-put_once x [] = refl
  map-put_once x (y ∷ ys) = map-put_once_by (R (f x) (f y)) x y ys (put_once (on f R) x ys) (put_once R (f x) (map f ys)) (map-put_once x ys)

  -- the same with each once
  pub in_order-map : (xs : List X) → in_order R (map f xs) ≡ map f (in_order (on f R) xs)
  unfolding in_order
  in_order-map [] = refl
  in_order-map (x ∷ xs) = ap (put_once R (f x)) (in_order-map xs) ∙ map-put_once x (in_order (on f R) xs)

pub map-map : {X Y Z : Type 0} (f : X → Y) (g : Y → Z) (xs : List X) → map g (map f xs) ≡ map (λ x. g (f x)) xs
map-map f g [] = refl
map-map f g (x ∷ xs) = ap (λ l. g (f x) ∷ l) (map-map f g xs)

-- parts of things with keys that are made of others, by the keys
parts_by_keys : {X Y Z : Type 0} (part : Keyed Y → Z) (keyed : X → Keyed Y) (xs : List X) (ks : List (Keyed Y)) → ks ≡ map keyed xs
    → map part (sorted by_key ks) ≡ map (λ x. part (keyed x)) (sorted (on (λ x. (keyed x).key) text_cmp) xs)
parts_by_keys {X} {Y} part keyed xs ks e =
    ap (λ (l : List (Keyed Y)). map part (sorted by_key l)) e ∙ ap (map part) (sorted-map keyed by_key xs)
    ∙ map-map keyed part (sorted (on (λ (x : X). (keyed x).key) text_cmp) xs)

-- things made of others, by the keys of these
pub made_by_keys : {X Y : Type 0} (key : X → List ℕ) (made : X → Y) (xs : List X) (ks : List (Keyed Y))
    → ks ≡ map {B = Keyed Y} (λ x. record { key = key x; item = made x }) xs
    → map (λ (k : Keyed Y). k.item) (sorted by_key ks) ≡ map made (sorted (on key text_cmp) xs)
made_by_keys {X} {Y} key made xs ks e = parts_by_keys (λ (k : Keyed Y). k.item) (λ (x : X). record { key = key x; item = made x }) xs ks e

-- the keys of things, in order
pub keys_of : {X : Type 0} (key : X → List ℕ) (xs : List X) (ks : List (Keyed X))
    → ks ≡ map {B = Keyed X} (λ x. record { key = key x; item = x }) xs
    → map (λ (k : Keyed X). k.key) (sorted by_key ks) ≡ map key (sorted (on key text_cmp) xs)
keys_of {X} key xs ks e = parts_by_keys (λ (k : Keyed X). k.key) (λ (x : X). record { key = key x; item = x }) xs ks e

-- things by their keys
pub by_keys_of : {X : Type 0} (key : X → List ℕ) (xs : List X) (ks : List (Keyed X))
    → ks ≡ map {B = Keyed X} (λ x. record { key = key x; item = x }) xs
    → map (λ (k : Keyed X). k.item) (sorted by_key ks) ≡ sorted (on key text_cmp) xs
by_keys_of {X} key xs ks e = made_by_keys key (λ (x : X). x) xs ks e ∙ map_same (sorted (on key text_cmp) xs)

-- the same with each once
pub once_by_keys_of : {X : Type 0} (key : X → List ℕ) (xs : List X) (ks : List (Keyed X))
    → ks ≡ map {B = Keyed X} (λ x. record { key = key x; item = x }) xs
    → map (λ (k : Keyed X). k.item) (in_order by_key ks) ≡ in_order (on key text_cmp) xs
once_by_keys_of {X} key xs ks e =
    let keyed : X → Keyed X = λ x. record { key = key x; item = x } in
    ap (λ (l : List (Keyed X)). map (λ (k : Keyed X). k.item) (in_order by_key l)) e
    ∙ ap (map (λ (k : Keyed X). k.item)) (in_order-map keyed by_key xs)
    ∙ map-map keyed (λ (k : Keyed X). k.item) (in_order (on key text_cmp) xs)
    ∙ map_same (in_order (on key text_cmp) xs)

-- lines in order, each once
pub once_lines : {X : Type 0} (f : X → Markup) (xs : List X) → in_order text_cmp (map (λ x. line (f x)) xs) ≡ map line (in_order line_cmp (map f xs))
once_lines f xs = ap (in_order text_cmp) (sym (map-map f line xs)) ∙ in_order-map line text_cmp (map f xs)

-- lines in order
pub sorted_lines : {X : Type 0} (f : X → Markup) (xs : List X) → sorted text_cmp (map (λ x. line (f x)) xs) ≡ map line (sorted line_cmp (map f xs))
sorted_lines f xs = ap (sorted text_cmp) (sym (map-map f line xs)) ∙ sorted-map line text_cmp (map f xs)

-- What a sort leaves is the same in another order.
module _ {X : Type 0} (R : X → X → Ordering) where
  exchanged : (x y : X) (ys : List X) → IsPermutation (x ∷ y ∷ ys) (y ∷ x ∷ ys)
  exchanged x y ys = IsPermutation-append (x ∷ y ∷ []) (y ∷ x ∷ []) ys ys (IsPermutation-append_comm (x ∷ []) (y ∷ [])) (IsPermutation-refl ys)

  put_moves_by : (r : Ordering) (x y : X) (ys behind : List X) → IsPermutation (x ∷ ys) behind → IsPermutation (x ∷ y ∷ ys) (put_by r x y ys behind)
  put_moves_by Less x y ys behind h = IsPermutation-refl (x ∷ y ∷ ys)
  put_moves_by Equal x y ys behind h = IsPermutation-refl (x ∷ y ∷ ys)
  put_moves_by Greater x y ys behind h = IsPermutation-trans (x ∷ y ∷ ys) (y ∷ x ∷ ys) (y ∷ behind) (exchanged x y ys) (IsPermutation-cons y (x ∷ ys) behind h)

  put_moves : (x : X) (ys : List X) → IsPermutation (x ∷ ys) (put R x ys)
  put_moves x [] = IsPermutation-refl (x ∷ [])
  put_moves x (y ∷ ys) = put_moves_by (R x y) x y ys (put R x ys) (put_moves x ys)

  pub sorted_moves : (xs : List X) → IsPermutation xs (sorted R xs)
  unfolding sorted
  sorted_moves [] = IsPermutation-refl []
  sorted_moves (x ∷ xs) = IsPermutation-trans (x ∷ xs) (x ∷ sorted R xs) (put R x (sorted R xs)) (IsPermutation-cons x xs (sorted R xs) (sorted_moves xs)) (put_moves x (sorted R xs))
