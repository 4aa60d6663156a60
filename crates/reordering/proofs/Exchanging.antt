-- Exchanges that bring things to their places.
use Rattle.std.proofs.Common.{◌≡◌, ◌∙◌, ◌+◌, ◌<◌, ◌≤◌, ℕ, zero, suc, List, [], ◌∷◌, ◌++◌, length, get_or, map, refl, sym, ap, subst, take, ⊎_elim, Option, Some, arith}
use Rattle.std.specs.List.{slice_get, swap}
use Rattle.std.proofs.Math.Seq.{take-append_seam}
use Rattle.std.proofs.lemmas.Bool.{cases_eq, cases_lt}
use Rattle.std.proofs.lemmas.List.{length-map, get_or-map, same_lists}
use Rattle.std.proofs.lemmas.List.Edits.{Swapped, length-swap, swapped_from_swap}
use Rattle.std.proofs.lemmas.Option.{slice_get-get_or, slice_get_past}
use Rattle.reordering.specs.Inverses.{AreInverse}

-- what a swap leaves, place by place
pub got-swap : {X : Type 0} (xs : List X) (a b : ℕ) → a < length xs → b < length xs → Swapped (slice_get xs) (slice_get (swap xs a b)) a b
got-swap [] a b p q = absurd (omega (arith, p))
got-swap {X} (d ∷ ys) a b p q =
    let xs : List X = d ∷ ys in
    let zs : List X = swap xs a b in
    let same : length zs ≡ length xs = length-swap xs a b in
    let moved : Swapped (λ i. get_or xs i d) (λ i. get_or zs i d) a b = swapped_from_swap xs zs a b d p q refl in (
      slice_get-get_or zs a d (subst (λ n. a < n) (sym same) p) ∙ ap Some moved.0 ∙ sym (slice_get-get_or xs b d q),
      slice_get-get_or zs b d (subst (λ n. b < n) (sym same) q) ∙ ap Some moved.1 ∙ sym (slice_get-get_or xs a d p),
      λ m not_a not_b. ⊎_elim
          (λ (h : m < length xs). slice_get-get_or zs m d (subst (λ n. m < n) (sym same) h) ∙ ap Some (moved.2 m not_a not_b) ∙ sym (slice_get-get_or xs m d h))
          (λ (h : length xs ≤ m). slice_get_past zs m (subst (λ n. n ≤ m) (sym same) h) ∙ sym (slice_get_past xs m h))
          (cases_lt m (length xs)),
    )

-- One exchange: f gives the number for each place, and g the place of each number; what goes to the place `at` is exchanged.
module _ (n : ℕ) (f g f' g' : ℕ → ℕ) (at : ℕ) (within : at < n)
    (there : (k : ℕ) → k < n → (f k < n) × (g (f k) ≡ k)) (back : (k : ℕ) → k < n → (g k < n) × (f (g k) ≡ k))
    (moved : Swapped f f' at (g at)) where
  -- at the place itself, at the one that gives its number up, and elsewhere
  by-place : (P : ℕ → Type 0) → P at → P (g at) → ((k : ℕ) → (k ≡ at → ⊥) → (k ≡ g at → ⊥) → k < n → P k) → (k : ℕ) → k < n → P k
  by-place P here there_to else k h =
      ⊎_elim (λ (e : k ≡ at). subst P (sym e) here)
      (λ (other : k ≡ at → ⊥). ⊎_elim (λ (e : k ≡ g at). subst P (sym e) there_to) (λ (apart : k ≡ g at → ⊥). else k other apart h) (cases_eq k (g at)))
      (cases_eq k at)

  -- elsewhere the number is neither that of the place nor the place
  elsewhere : (k : ℕ) → (k ≡ at → ⊥) → (k ≡ g at → ⊥) → k < n → (f k ≡ at → ⊥) × (f k ≡ f at → ⊥)
  elsewhere k other apart h = (
    λ e. apart (sym (there k h).1 ∙ ap g e),
    λ e. other (sym (there k h).1 ∙ ap g e ∙ (there at within).1),
  )

  at-place : f' at ≡ at
  at-place = moved.0 ∙ (back at within).1

  pub inverse-there : Swapped g g' at (f at) → (k : ℕ) → k < n → (f' k < n) × (g' (f' k) ≡ k)
  inverse-there swapped =
      by-place (λ k. (f' k < n) × (g' (f' k) ≡ k))
      (subst (λ m. m < n) (sym at-place) within, ap g' at-place ∙ swapped.0 ∙ (there at within).1)
      (subst (λ m. m < n) (sym moved.1) (there at within).0, ap g' moved.1 ∙ swapped.1)
      (λ k other apart h. (
        subst (λ m. m < n) (sym (moved.2 k other apart)) (there k h).0,
        ap g' (moved.2 k other apart) ∙ swapped.2 (f k) (elsewhere k other apart h).0 (elsewhere k other apart h).1 ∙ (there k h).1,
      ))

  -- what goes to each place stays the same
  pub things-kept : {Y : Type 0} (a a' t : ℕ → Y) → Swapped a a' at (f at) → ((k : ℕ) → k < n → a (f k) ≡ t k) → (k : ℕ) → k < n → a' (f' k) ≡ t k
  things-kept a a' t swapped was =
      by-place (λ k. a' (f' k) ≡ t k)
      (ap a' at-place ∙ swapped.0 ∙ was at within)
      (ap a' moved.1 ∙ swapped.1 ∙ ap a (sym (back at within).1) ∙ was (g at) (back at within).0)
      (λ k other apart h. ap a' (moved.2 k other apart) ∙ swapped.2 (f k) (elsewhere k other apart h).0 (elsewhere k other apart h).1 ∙ was k h)

  -- one place more is done
  pub done-more : ((j : ℕ) → j < at → f j ≡ j) → (j : ℕ) → j < at + 1 → f' j ≡ j
  done-more done j h =
      ⊎_elim (λ (e : j ≡ at). ap f' e ∙ at-place ∙ sym e)
      (λ (other : j ≡ at → ⊥).
      let below : j < at = omega (arith, h, other) in
      moved.2 j other (λ e. other (sym (done j below) ∙ ap f e ∙ (back at within).1)) ∙ done j below)
      (cases_eq j at)

-- lists with what stands at their places
module _ (xs ys : List ℕ) (at : ℕ) (are : AreInverse xs ys) (within : at < length xs) where
  abbrev from : ℕ
  from = get_or xs at 0

  abbrev to : ℕ
  to = get_or ys at 0

  xs-moved : Swapped (λ i. get_or xs i 0) (λ i. get_or (swap xs at to) i 0) at to
  xs-moved = swapped_from_swap xs (swap xs at to) at to 0 within (are.back at within).0 refl

  ys-moved : Swapped (λ i. get_or ys i 0) (λ i. get_or (swap ys at from) i 0) at from
  ys-moved =
      swapped_from_swap ys (swap ys at from) at from 0 (subst (λ n. at < n) (sym are.lengths) within) (subst (λ n. from < n) (sym are.lengths) (are.there at within).0) refl

  pub inverse-kept : AreInverse (swap xs at to) (swap ys at from)
  inverse-kept =
      let n = length xs in
      let same : length (swap xs at to) ≡ n = length-swap xs at to in
      let f : ℕ → ℕ = λ i. get_or xs i 0 in
      let g : ℕ → ℕ = λ i. get_or ys i 0 in
      let f' : ℕ → ℕ = λ i. get_or (swap xs at to) i 0 in
      let g' : ℕ → ℕ = λ i. get_or (swap ys at from) i 0 in
      record {
        lengths = length-swap ys at from ∙ are.lengths ∙ sym same;
        there = subst (λ m. (k : ℕ) → k < m → (f' k < m) × (g' (f' k) ≡ k)) (sym same) (inverse-there n f g f' g' at within are.there are.back xs-moved ys-moved);
        back = subst (λ m. (k : ℕ) → k < m → (g' k < m) × (f' (g' k) ≡ k)) (sym same) (inverse-there n g f g' f' at within are.back are.there ys-moved xs-moved);
      }

  pub kept-in : {X : Type 0} (zs : List X) (t : ℕ → Option X) → length zs ≡ length xs → ((k : ℕ) → k < length xs → slice_get zs (get_or xs k 0) ≡ t k)
      → (k : ℕ) → k < length (swap xs at to) → slice_get (swap zs at from) (get_or (swap xs at to) k 0) ≡ t k
  kept-in zs t same was k h =
      things-kept (length xs) (λ i. get_or xs i 0) (λ i. get_or ys i 0) (λ i. get_or (swap xs at to) i 0) (λ i. get_or (swap ys at from) i 0) at within
      are.there are.back xs-moved (slice_get zs) (slice_get (swap zs at from)) t
      (got-swap zs at from (subst (λ n. at < n) (sym same) within) (subst (λ n. from < n) (sym same) (are.there at within).0)) was k
      (subst (λ n. k < n) (length-swap xs at to) h)

  pub done-in : ((j : ℕ) → j < at → get_or xs j 0 ≡ j) → (j : ℕ) → j < at + 1 → get_or (swap xs at to) j 0 ≡ j
  done-in done =
      done-more (length xs) (λ i. get_or xs i 0) (λ i. get_or ys i 0) (λ i. get_or (swap xs at to) i 0) (λ i. get_or (swap ys at from) i 0) at within
      are.there are.back xs-moved done

-- a front written whole
pub take-written : {X : Type 0} (n : ℕ) (bs zs : List X) → length bs ≡ n → take n (bs ++ zs) ≡ bs
take-written n bs zs same = ap (λ k. take k (bs ++ zs)) (sym same) ∙ take-append_seam bs zs

-- a list from what stands at its places
got-some : {X : Type 0} (xs : List X) (k : ℕ) (e : Option X) → k < length xs → get_or (map Some xs) k e ≡ slice_get xs k
got-some [] k e h = absurd (omega (arith, h))
got-some (x ∷ xs) zero e h = refl
got-some (x ∷ xs) (suc k) e h = got-some xs k e (omega (arith, h))

pub from-places : {X : Type 0} (zs bs : List X) (order : List ℕ) → length bs ≡ length order
    → ((k : ℕ) → k < length bs → slice_get bs k ≡ slice_get zs (get_or order k 0)) → map Some bs ≡ map (slice_get zs) order
from-places zs bs order same is =
    same_lists (map Some bs) (map (slice_get zs) order) (length-map bs Some ∙ same ∙ sym (length-map order (slice_get zs)))
    (λ k d h.
    let within : k < length bs = subst (λ n. k < n) (length-map bs Some) h in
    got-some bs k d within ∙ is k within ∙ sym (get_or-map (slice_get zs) order k 0 d (subst (λ n. k < n) same within)))
