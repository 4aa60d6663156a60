-- Two neighbouring pages exchanged: what stands on them, by their numbers.
use Rattle.std.proofs.Common.{◌≡◌, ℕ, zero, suc, List, [], ◌∷◌, ◌++◌, length, map, refl, sym, ap, ◌∙◌, subst, ◌==◌, ◌<◌, ◌≤◌, ◌+◌, arith, append_assoc}
use Rattle.std.specs.Prelude.{slice_index_or}
use Rattle.std.specs.List.Sorted.{IsPermutation}
use Rattle.std.proofs.lemmas.List.{map-append}
use Rattle.std.proofs.lemmas.Bool.Decides.{same_from_decides, Decides-eqb, Decides-like}
use Rattle.footnotes.proofs.NotesSame.{swap_parts}

-- k and k + 1 in each other's place
unfoldable pub swap_at : ℕ → ℕ → ℕ
swap_at zero zero = suc zero
swap_at zero (suc zero) = zero
swap_at zero (suc (suc n)) = suc (suc n)
swap_at (suc k) zero = zero
swap_at (suc k) (suc n) = suc (swap_at k n)

back_again : (k n : ℕ) → swap_at k (swap_at k n) ≡ n
unfolding swap_at
back_again zero zero = refl
back_again zero (suc zero) = refl
back_again zero (suc (suc n)) = refl
back_again (suc k) zero = refl
back_again (suc k) (suc n) = ap suc (back_again k n)

pub stay_apart : (k x y : ℕ) → (swap_at k x == swap_at k y) ≡ (x == y)
stay_apart k x y = same_from_decides _ _
    (Decides-like _ (λ e. sym (back_again k x) ∙ ap (swap_at k) e ∙ back_again k y) (ap (swap_at k)) (Decides-eqb (swap_at k x) (swap_at k y)))
    (Decides-eqb x y)

at_first : (k : ℕ) → swap_at k k ≡ suc k
unfolding swap_at
at_first zero = refl
at_first (suc k) = ap suc (at_first k)

at_second : (k : ℕ) → swap_at k (suc k) ≡ k
unfolding swap_at
at_second zero = refl
at_second (suc k) = ap suc (at_second k)

before_both : (k n : ℕ) → n < k → swap_at k n ≡ n
unfolding swap_at
before_both zero n h = absurd (omega arith)
before_both (suc k) zero h = refl
before_both (suc k) (suc n) h = ap suc (before_both k n (omega arith))

after_both : (k n : ℕ) → suc k < n → swap_at k n ≡ n
unfolding swap_at
after_both zero zero h = absurd (omega arith)
after_both zero (suc zero) h = absurd (omega arith)
after_both zero (suc (suc n)) h = refl
after_both (suc k) zero h = absurd (omega arith)
after_both (suc k) (suc n) h = ap suc (after_both k n (omega arith))

-- what is said of a page by its number
pub said_at : {A : Type 0} (f : A → List ℕ) (front back : List A) (a b : A) (n : ℕ)
    → slice_index_or (map f (front ++ b ∷ a ∷ back)) (swap_at (length front) n) [] ≡ slice_index_or (map f (front ++ a ∷ b ∷ back)) n []
unfolding swap_at
said_at f [] back a b zero = refl
said_at f [] back a b (suc zero) = refl
said_at f [] back a b (suc (suc n)) = refl
said_at f (p ∷ front) back a b zero = refl
said_at f (p ∷ front) back a b (suc n) = said_at f front back a b n

-- what stands on some pages, page by page, the first of which has this number
abbrev pub numbered : {A X : Type 0} → (ℕ → A → List X) → ℕ → List A → List X
numbered G n [] = []
numbered G n (p ∷ pages) = G n p ++ numbered G (suc n) pages

module _ {A X : Type 0} (G : ℕ → A → List X) where
  numbered-append : (n : ℕ) (ps qs : List A) → numbered G n (ps ++ qs) ≡ numbered G n ps ++ numbered G (n + length ps) qs
  numbered-append n [] qs = ap (λ k. numbered G k qs) (omega arith)
  numbered-append n (p ∷ ps) qs =
      ap (λ l. G n p ++ l) (numbered-append (suc n) ps qs ∙ ap (λ k. numbered G (suc n) ps ++ numbered G k qs) (omega arith))
      ∙ sym (append_assoc (G n p) (numbered G (suc n) ps) (numbered G (n + suc (length ps)) qs))

  -- under other numbers
  module _ (r : ℕ → ℕ) (mv : X → X) (moves : (n : ℕ) (p : A) → map mv (G n p) ≡ G (r n) p) where
    on-page : (n m : ℕ) (p : A) → r n ≡ m → map mv (G n p) ≡ G m p
    on-page n m p e = moves n p ∙ ap (λ k. G k p) e

    stays : (pages : List A) (n : ℕ) → ((m : ℕ) → n ≤ m → m < n + length pages → r m ≡ m) → map mv (numbered G n pages) ≡ numbered G n pages
    stays [] n h = refl
    stays (p ∷ pages) n h =
        map-append mv (G n p) (numbered G (suc n) pages)
        ∙ (λ i. on-page n n p (h n (omega arith) (omega arith)) i ++ stays pages (suc n) (λ m x y. h m (omega arith) (omega arith)) i)

    after : (back : List A) (n : ℕ) → ((m : ℕ) → n ≤ m → r m ≡ m) → map mv (numbered G n back) ≡ numbered G n back
    after back n h = stays back n (λ m x y. h m x)

-- what stands on the pages, with the numbers that they have then, stands on the exchanged pages
pub exchanged : {A X : Type 0} (G : ℕ → A → List X) (mv : (ℕ → ℕ) → X → X) (moves : (r : ℕ → ℕ) (n : ℕ) (p : A) → map (mv r) (G n p) ≡ G (r n) p)
    (front back : List A) (a b : A)
    → IsPermutation (map (mv (swap_at (length front))) (numbered G 0 (front ++ a ∷ b ∷ back))) (numbered G 0 (front ++ b ∷ a ∷ back))
exchanged G mv moves front back a b =
    let k : ℕ = length front in
    let r : ℕ → ℕ = swap_at k in
    let m = mv r in
    let from : map m (numbered G 0 (front ++ a ∷ b ∷ back)) ≡ numbered G 0 front ++ (G (suc k) a ++ (G k b ++ numbered G (suc (suc k)) back)) =
    ap (map m) (numbered-append G 0 front (a ∷ b ∷ back) ∙ ap (λ n. numbered G 0 front ++ numbered G n (a ∷ b ∷ back)) (omega arith))
    ∙ map-append m (numbered G 0 front) (numbered G k (a ∷ b ∷ back))
    ∙ (λ i. stays G r m (moves r) front 0 (λ n x y. before_both k n (omega arith)) i ++ (map-append m (G k a) (numbered G (suc k) (b ∷ back)) ∙
    (λ j. on-page G r m (moves r) k (suc k) a (at_first k) j ++ (map-append m (G (suc k) b) (numbered G (suc (suc k)) back) ∙
    (λ h. on-page G r m (moves r) (suc k) k b (at_second k) h ++ after G r m (moves r) back (suc (suc k)) (λ n x. after_both k n (omega arith)) h)) j)) i) in
    let to : numbered G 0 (front ++ b ∷ a ∷ back) ≡ numbered G 0 front ++ (G k b ++ (G (suc k) a ++ numbered G (suc (suc k)) back)) =
    numbered-append G 0 front (b ∷ a ∷ back) ∙ ap (λ n. numbered G 0 front ++ numbered G n (b ∷ a ∷ back)) (omega arith) in
    subst (λ l. IsPermutation l (numbered G 0 (front ++ b ∷ a ∷ back))) (sym from)
    (subst (IsPermutation (numbered G 0 front ++ (G (suc k) a ++ (G k b ++ numbered G (suc (suc k)) back)))) (sym to)
    (swap_parts (numbered G 0 front) (G (suc k) a) (G k b) (numbered G (suc (suc k)) back)))
