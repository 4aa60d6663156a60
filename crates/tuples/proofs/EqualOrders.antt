-- Members with equal orders.
use Rattle.std.proofs.Common.{◌≡◌, ◌∙◌, ◌≤◌, ◌<◌, ◌+◌, ℕ, zero, suc, Bool, true, false, cond, List, [], ◌∷◌, length, get_or, refl, ap, sym, Option, Some, None, arith}
use Rattle.std.proofs.lemmas.Bool.Decides.{nat_tests}
use Rattle.std.proofs.lemmas.List.{length-map}
use Rattle.std.proofs.lemmas.List.Sorted.{sorted_far}
use Rattle.std.proofs.lemmas.Option.{slice_get-get_or, slice_get_past}
use Rattle.std.specs.List.{filter, slice_get}
use Rattle.std.specs.List.Sorted.{IsPartitionPoint, IsSortedBy}
use Rattle.std.specs.Option.{option_map_or}
use Rattle.std.specs.Ordering.{is_eq, is_lt, ordering_reverse}
use Rattle.std.specs.Prelude.{nat_lt}
use Rattle.std.specs.declared.cmp.Ordering.{Ordering}
use Rattle.std.specs.declared.cmp.Ordering.TheVariants.{Less, Equal, Greater}
use Rattle.ix_base.specs.LinkRules.{same_order}
use Rattle.ix_base.specs.Membership.{order_of}
use Rattle.ix_base.specs.Orders.{order_cmp, same_decimal}
use Rattle.id_table.proofs.Asking.{map-filter}
use Rattle.tuples.specs.declared.fact.Fact.{Fact}
use Rattle.tuples.specs.FactGroups.{is_earlier}
use Rattle.tuples.specs.OwnedFacts.{all_seen, fact_cmp, seen}
use Rattle.tuples.proofs.RankLaws.{strict, fact_total}

two-many : (n : ℕ) → nat_lt 1 (suc (suc n)) ≡ true
two-many n = grind (arith, nat_tests)

differ : {Y : Type 0} (b : Bool) → b ≡ true → b ≡ false → Y
differ true h k = absurd (cc)
differ false h k = absurd (cc)

not-earlier : (o : Ordering) → is_lt o ≡ true → is_eq (ordering_reverse o) ≡ false
not-earlier Less h = refl
not-earlier Equal h = absurd (cc)
not-earlier Greater h = absurd (cc)

not-later : (o : Ordering) → is_lt o ≡ true → is_eq o ≡ false
not-later Less h = refl
not-later Equal h = absurd (cc)
not-later Greater h = refl

later : (o : Ordering) → is_eq o ≡ false → is_lt (ordering_reverse o) ≡ false → is_lt o ≡ true
later Less h k = refl
later Equal h k = absurd (cc)
later Greater h k = absurd (cc)

module _ (e : Fact) where
  abbrev equal : Fact → Bool
  equal y = is_eq (fact_cmp e y)

  earlier-no : (y : Fact) → is_earlier y e ≡ true → equal y ≡ false
  earlier-no y h = ap is_eq (fact_total.antisymm e y) ∙ not-earlier (fact_cmp y e) h

  later-no : (y : Fact) → is_earlier e y ≡ true → equal y ≡ false
  later-no y h = not-later (fact_cmp e y) h

  later-is : (y : Fact) → equal y ≡ false → is_earlier y e ≡ false → is_earlier e y ≡ true
  later-is y h k = later (fact_cmp e y) h (ap is_lt (sym (fact_total.antisymm y e)) ∙ k)

  far : (x y w : Fact) → is_earlier x y ≡ true → is_earlier w y ≡ false → is_earlier x w ≡ true
  far x y w h k = elim (is_earlier x w) as (λ b. is_earlier x w ≡ b → is_earlier x w ≡ true) [
    | true ↦ λ q. q
    | false ↦ λ q. differ (is_earlier x y) h (strict.chain x w y q k)
  ] refl

  none-later : (z : Fact) (zs : List Fact) → is_earlier e z ≡ true → ((k : ℕ) (d : Fact) → k < length zs → is_earlier (get_or zs k d) z ≡ false) → filter equal zs ≡ []
  none-later z [] h up = refl
  none-later z (w ∷ zs) h up =
      ap (λ b. cond b (w ∷ filter equal zs) (filter equal zs)) (later-no w (far e z w h (up 0 w (omega arith))))
      ∙ none-later z zs h (λ k d l. up (suc k) d (omega arith))

  one-kept : (b : Bool) (y : Fact) (ys : List Fact) → ys ≡ [] → nat_lt 1 (length (cond b (y ∷ ys) ys)) ≡ false
  one-kept true y ys h = ap (λ l. nat_lt 1 (length (y ∷ l))) h
  one-kept false y ys h = ap (λ l. nat_lt 1 (length l)) h

  at-first : (y : Fact) (ys : List Fact) → is_earlier y e ≡ false
      → ((k : ℕ) (d : Fact) → k < length ys → is_earlier (get_or ys k d) e ≡ false)
      → ((i j : ℕ) (d : Fact) → i ≤ j → j < length (y ∷ ys) → is_earlier (get_or (y ∷ ys) j d) (get_or (y ∷ ys) i d) ≡ false)
      → nat_lt 1 (length (filter equal (y ∷ ys))) ≡ option_map_or equal (slice_get (y ∷ ys) 1) false
  at-first y [] h low up = one-kept (equal y) y [] refl
  at-first y (z ∷ zs) h low up = by (equal z) refl where
    both : (b : Bool) → equal z ≡ true → equal y ≡ b → nat_lt 1 (length (cond b (y ∷ z ∷ filter equal zs) (z ∷ filter equal zs))) ≡ true
    both true t q = two-many (length (filter equal zs))
    both false t q = differ (is_earlier e y) (later-is y q h) (strict.chain e z y (no-later z t) (up 0 1 y (omega arith) (omega arith))) where
      no-later : (w : Fact) → equal w ≡ true → is_earlier e w ≡ false
      no-later w s = elim (is_earlier e w) as (λ b. is_earlier e w ≡ b → is_earlier e w ≡ false) [
        | true ↦ λ r. differ (equal w) s (later-no w r)
        | false ↦ λ r. r
      ] refl

    by : (b : Bool) → equal z ≡ b → nat_lt 1 (length (filter equal (y ∷ z ∷ zs))) ≡ equal z
    by true t =
        ap (λ c. nat_lt 1 (length (cond (equal y) (y ∷ cond c (z ∷ filter equal zs) (filter equal zs)) (cond c (z ∷ filter equal zs) (filter equal zs))))) t
        ∙ both (equal y) t refl ∙ sym t
    by false t =
        one-kept (equal y) y (filter equal (z ∷ zs))
        (ap (λ c. cond c (z ∷ filter equal zs) (filter equal zs)) t
        ∙ none-later z zs (later-is z t (low 0 z (omega arith))) (λ k d l. up 1 (suc (suc k)) d (omega arith) (omega arith)))
        ∙ sym t

  -- of facts in order, the one behind the first that isn't earlier tells whether two have this order
  second-tells : (xs : List Fact) (i : ℕ)
      → ((i j : ℕ) (d : Fact) → i ≤ j → j < length xs → is_earlier (get_or xs j d) (get_or xs i d) ≡ false)
      → ((k : ℕ) (d : Fact) → 0 ≤ k → k < i → is_earlier (get_or xs k d) e ≡ true)
      → ((k : ℕ) (d : Fact) → i ≤ k → k < length xs → is_earlier (get_or xs k d) e ≡ false)
      → nat_lt 1 (length (filter equal xs)) ≡ option_map_or equal (slice_get xs (suc i)) false
  second-tells [] i up low high = refl
  second-tells (y ∷ ys) zero up low high =
      at-first y ys (high 0 y (omega arith) (omega arith)) (λ k d l. high (suc k) d (omega arith) (omega arith)) up
  second-tells (y ∷ ys) (suc i) up low high =
      ap (λ b. nat_lt 1 (length (cond b (y ∷ filter equal ys) (filter equal ys)))) (earlier-no y (low 0 y (omega arith) (omega arith)))
      ∙ second-tells ys i (λ k j d l h. up (suc k) (suc j) d (omega arith) (omega arith)) (λ k d l h. low (suc k) d (omega arith) (omega arith))
      (λ k d l h. high (suc k) d (omega arith) (omega arith))

same-equal : (x y : Option (List ℕ)) → (b : Bool) → option_map_or (λ n. true) x false ≡ true
    → option_map_or (λ n. option_map_or (same_decimal n) y false) x false ≡ is_eq (order_cmp x y)
same-equal (Some n) (Some m) b h = refl
same-equal (Some n) None b h = refl
same-equal None y b h = absurd (cc)

filter-same : (p q : Fact → Bool) → ((x : Fact) → p x ≡ q x) → (xs : List Fact) → filter p xs ≡ filter q xs
filter-same p q h [] = refl
filter-same p q h (x ∷ xs) = λ i. cond (h x i) (x ∷ filter-same p q h xs i) (filter-same p q h xs i)

nothing-kept : (xs : List Fact) → filter (λ x. false) xs ≡ []
nothing-kept [] = refl
nothing-kept (x ∷ xs) = nothing-kept xs

map_or-same : {X Z : Type 0} (g h : X → Z) → ((x : X) → g x ≡ h x) → (o : Option X) (d : Z) → option_map_or g o d ≡ option_map_or h o d
map_or-same g h e None d = refl
map_or-same g h e (Some x) d = e x

none-at : {X : Type 0} (o : Option X) → option_map_or (λ x. false) o false ≡ false
none-at None = refl
none-at (Some x) = refl

with-order : (e : Fact) (xs : List Fact) (i : ℕ) (o : Option (List ℕ)) → order_of (seen e) ≡ o
    → IsSortedBy is_earlier xs → IsPartitionPoint (λ y. is_earlier y e ≡ true) (λ y. is_earlier y e ≡ false) xs i
    → option_map_or (λ y. same_order (seen e) (seen y)) (slice_get xs (suc i)) false ≡ nat_lt 1 (length (filter (λ y. same_order (seen e) (seen y)) xs))
with-order e xs i None n up parts =
    map_or-same _ (λ y. false) (λ y. ap (λ o. option_map_or (λ n. option_map_or (same_decimal n) (order_of (seen y)) false) o false) n) (slice_get xs (suc i)) false
    ∙ none-at (slice_get xs (suc i))
    ∙ ap (λ l. nat_lt 1 (length l)) (sym (nothing-kept xs)
    ∙ sym (filter-same _ (λ y. false) (λ y. ap (λ o. option_map_or (λ n. option_map_or (same_decimal n) (order_of (seen y)) false) o false) n) xs))
with-order e xs i (Some m) n up parts =
    map_or-same _ (equal e) same (slice_get xs (suc i)) false
    ∙ sym (second-tells e xs i (sorted_far is_earlier strict xs up) parts.0 parts.1)
    ∙ ap (λ l. nat_lt 1 (length l)) (sym (filter-same _ (equal e) same xs))
  where
    same : (y : Fact) → same_order (seen e) (seen y) ≡ equal e y
    same y = same-equal (order_of (seen e)) (order_of (seen y)) true (ap (λ o. option_map_or (λ n. true) o false) n)

repeated-at : (e : Fact) (xs : List Fact) (i : ℕ)
    → IsSortedBy is_earlier xs → IsPartitionPoint (λ y. is_earlier y e ≡ true) (λ y. is_earlier y e ≡ false) xs i
    → option_map_or (λ y. same_order (seen e) (seen y)) (slice_get xs (i + 1)) false ≡ nat_lt 1 (length (filter (same_order (seen e)) (all_seen xs)))
repeated-at e xs i up parts =
    (let plus : i + 1 ≡ suc i = omega arith in ap (λ k. option_map_or (λ y. same_order (seen e) (seen y)) (slice_get xs k) false) plus)
    ∙ with-order e xs i (order_of (seen e)) refl up parts
    ∙ ap (nat_lt 1) (sym (length-map (filter (λ y. same_order (seen e) (seen y)) xs) seen) ∙ ap length (map-filter seen (same_order (seen e)) xs))

pub repeated-in : (e : Fact) (xs : List Fact) (i : ℕ) (d : Fact) → i + 1 < length xs
    → IsSortedBy is_earlier xs → IsPartitionPoint (λ y. is_earlier y e ≡ true) (λ y. is_earlier y e ≡ false) xs i
    → same_order (seen e) (seen (get_or xs (i + 1) d)) ≡ nat_lt 1 (length (filter (same_order (seen e)) (all_seen xs)))
repeated-in e xs i d l up parts =
    sym (ap (λ o. option_map_or (λ y. same_order (seen e) (seen y)) o false) (slice_get-get_or xs (i + 1) d l)) ∙ repeated-at e xs i up parts

not-below : (m n : ℕ) → n ≤ m → nat_lt m n ≡ false
not-below m n h = grind (arith, nat_tests)

pub repeated-out : (e : Fact) (xs : List Fact) (i : ℕ) → length xs ≤ i + 1
    → IsSortedBy is_earlier xs → IsPartitionPoint (λ y. is_earlier y e ≡ true) (λ y. is_earlier y e ≡ false) xs i
    → nat_lt (i + 1) (length xs) ≡ nat_lt 1 (length (filter (same_order (seen e)) (all_seen xs)))
repeated-out e xs i l up parts =
    not-below (i + 1) (length xs) l ∙ sym (ap (λ o. option_map_or (λ y. same_order (seen e) (seen y)) o false) (slice_get_past xs (i + 1) l)) ∙ repeated-at e xs i up parts
