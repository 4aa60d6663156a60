-- The places of the numbers of an order.
use Rattle.std.proofs.Common.{◌≡◌, ◌∙◌, ◌+◌, ◌<◌, ℕ, List, length, get_or, set, sym, ap, subst, ⊎_elim, arith}
use Rattle.std.specs.List.{All, Contains, IsDistinct, range_with_len}
use Rattle.std.specs.List.Sorted.{IsPermutation}
use Rattle.std.proofs.Math.Dec.{eqb}
use Rattle.std.proofs.lemmas.Bool.{cases_eq, eq-eqb, eqb-false, ne_eqb}
use Rattle.std.proofs.lemmas.List.{get_or-set_other, get_or-set_same, get_or_default}
use Rattle.std.proofs.lemmas.List.FromFn.{get_or-range_with_len, length-range_with_len}
use Rattle.std.proofs.lemmas.List.Sorted.{All-permutation, Contains-permutation, length_permutation}
use Rattle.std.proofs.lemmas.Map.Keys.{IsDistinct-IsPermutation, IsDistinct-from_apart, apart_from_distinct}
use Rattle.reordering.specs.Inverses.{AreInverse}

got : (n k d : ℕ) → k < n → get_or (range_with_len 0 n) k d ≡ k
got n k d h = get_or-range_with_len 0 n k d h ∙ omega arith

eqb-flips : (x y : ℕ) → eqb x y ≡ eqb y x
eqb-flips x y =
    ⊎_elim (λ (e : x ≡ y). eq-eqb x y e ∙ sym (eq-eqb y x (sym e))) (λ other. ne_eqb x y other ∙ sym (ne_eqb y x (λ e. other (sym e)))) (cases_eq x y)

-- an order has as many places as numbers
pub length-order : (n : ℕ) (order : List ℕ) → IsPermutation (range_with_len 0 n) order → length order ≡ n
length-order n order permuted = length_permutation (range_with_len 0 n) order permuted ∙ length-range_with_len 0 n

module _ (order : List ℕ) (permuted : IsPermutation (range_with_len 0 (length order)) order) where
  pub numbers-within : All (λ k. k < length order) order
  numbers-within =
      All-permutation (λ k. k < length order) (range_with_len 0 (length order)) order permuted
      (λ k d h.
      let below : k < length order = subst (λ m. k < m) (length-range_with_len 0 (length order)) h in
      subst (λ m. m < length order) (sym (got (length order) k d below)) below)

  distinct : IsDistinct eqb order
  distinct =
      IsDistinct-IsPermutation eqb eqb-flips (range_with_len 0 (length order)) order permuted
      (IsDistinct-from_apart eqb (range_with_len 0 (length order)) (λ i j d before h.
      let below : j < length order = subst (λ m. j < m) (length-range_with_len 0 (length order)) h in
      let first : get_or (range_with_len 0 (length order)) i d ≡ i = got (length order) i d (omega arith) in
      let second : get_or (range_with_len 0 (length order)) j d ≡ j = got (length order) j d below in
      ne_eqb _ _ (λ e. absurd (omega (arith, e, first, second, before)))))

  -- no number stands at two places
  apart : (i j : ℕ) → i < j → j < length order → get_or order i 0 ≡ get_or order j 0 → ⊥
  apart i j before below = eqb-false (get_or order i 0) (get_or order j 0) (apart_from_distinct eqb order i j 0 distinct before below)

  module _ (places : List ℕ) (same : length places ≡ length order) where
    -- one place more is entered
    pub places-more : (at : ℕ) → at < length order → ((p : ℕ) → p < at → get_or places (get_or order p 0) 0 ≡ p)
        → (p : ℕ) → p < at + 1 → get_or (set places (get_or order at 0) at) (get_or order p 0) 0 ≡ p
    places-more at below entered p h =
        ⊎_elim
        (λ (e : p ≡ at). ap (λ m. get_or (set places (get_or order at 0) at) (get_or order m 0) 0) e
        ∙ get_or-set_same places (get_or order at 0) at 0 (subst (λ m. get_or order at 0 < m) (sym same) (numbers-within at 0 below)) ∙ sym e)
        (λ (other : p ≡ at → ⊥).
        let before : p < at = omega (arith, h, other) in
        get_or-set_other places (get_or order at 0) (get_or order p 0) at 0 (λ e. apart p at before below e) ∙ entered p before)
        (cases_eq p at)

    -- all are entered
    pub all-places : ((p : ℕ) → p < length order → get_or places (get_or order p 0) 0 ≡ p) → AreInverse order places
    all-places entered = record {
      lengths = same;
      there = λ k h. (numbers-within k 0 h, entered k h);
      back = λ k h.
          let there : Contains (range_with_len 0 (length order)) k =
          (k, subst (λ m. k < m) (sym (length-range_with_len 0 (length order))) h, got (length order) k k h) in
          let at : Contains order k = Contains-permutation (range_with_len 0 (length order)) order k permuted there in
          let number : get_or order at.0 0 ≡ k = get_or_default order at.0 0 k at.1 ∙ at.2 in
          let is : get_or places k 0 ≡ at.0 = ap (λ m. get_or places m 0) (sym number) ∙ entered at.0 at.1 in
          (subst (λ m. m < length order) (sym is) at.1, ap (λ m. get_or order m 0) is ∙ number);
    }
