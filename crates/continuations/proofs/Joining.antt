-- Marks on the numbers at which elements go on.
use Rattle.std.proofs.Common.{◌≡◌, ◌∙◌, ◌+◌, ◌<◌, ◌≤◌, ℕ, Bool, true, false, List, length, ap, sym, arith, Option, Some, None, ◌↔◌, refl, ◌⊎◌, inl, inr, ⊎_elim, get_or-set_same, get_or-set_other}
use Rattle.std.proofs.Math.ListN.{get_or-eq_default, set}
use Rattle.std.proofs.lemmas.Bool.{cases_eq, cases_lt, true≢false}
use Rattle.continuations.specs.Walks.{next_at, is_marked, Joined}
use Rattle.continuations.proofs.Walking.{some-inj}

-- the marks are on the numbers at which the first so many go on, each at one of its own
pub record AreNextsMarked (ns : List (Option ℕ)) (upto : ℕ) (marks : List Bool) : Type 0 where
  pub found : (k : ℕ) → is_marked marks k ≡ true → (i : ℕ) × (i < upto) × (next_at ns i ≡ Some k)
  pub kept : (i k : ℕ) → i < upto → next_at ns i ≡ Some k → is_marked marks k ≡ true
  pub apart : (i j k : ℕ) → i < j → j < upto → next_at ns i ≡ Some k → next_at ns j ≡ Some k → ⊥

some-none : {X Y : Type 0} (x : X) → None ≡ Some x → Y
some-none x e = absurd cc

pub marked-begins : (ns : List (Option ℕ)) (marks : List Bool) → ((k : ℕ) → is_marked marks k ≡ false) → AreNextsMarked ns 0 marks
marked-begins ns marks none = record {
  found = λ k m. absurd (true≢false (sym m ∙ none k));
  kept = λ i k l e. absurd (omega (arith, l));
  apart = λ i j k l m a b. omega (arith, m);
}

below : (i n : ℕ) → i < n + 1 → (i ≡ n → ⊥) → i < n
below i n l d = omega (arith, l, d)

pub marked-none : (ns : List (Option ℕ)) (n : ℕ) (marks : List Bool) → next_at ns n ≡ None → AreNextsMarked ns n marks → AreNextsMarked ns (n + 1) marks
marked-none ns n marks none h = record {
  found = λ k m. let f : (i : ℕ) × (i < n) × (next_at ns i ≡ Some k) = h.found k m in (f.0, omega (arith, f.1), f.2);
  kept = λ i k l e. ⊎_elim (λ (same : i ≡ n). some-none k (sym none ∙ ap (next_at ns) (sym same) ∙ e)) (λ d. h.kept i k (below i n l d) e) (cases_eq i n);
  apart = λ i j k l m a b. ⊎_elim (λ (same : j ≡ n). some-none k (sym none ∙ ap (next_at ns) (sym same) ∙ b)) (λ d. h.apart i j k l (below j n m d) a b) (cases_eq j n);
}

pub marked-more : (ns : List (Option ℕ)) (n k : ℕ) (marks : List Bool) → next_at ns n ≡ Some k → k < length marks → is_marked marks k ≡ false
    → AreNextsMarked ns n marks → AreNextsMarked ns (n + 1) (set marks k true)
marked-more ns n k marks here within new h = record {
  found = λ x m. found x m (cases_eq x k);
  kept = λ i x l e. kept i x l e (cases_eq i n);
  apart = λ i j x l m a b. apart i j x l m a b (cases_eq j n);
} where
  now : (x : ℕ) → x ≡ k → is_marked (set marks k true) x ≡ true
  now x same = ap (is_marked (set marks k true)) same ∙ get_or-set_same marks k true false within

  more : (x : ℕ) → is_marked marks x ≡ true → is_marked (set marks k true) x ≡ true
  more x m = ⊎_elim (λ (same : x ≡ k). now x same) (λ (other : x ≡ k → ⊥). get_or-set_other marks k x true false other ∙ m) (cases_eq x k)

  found : (x : ℕ) → is_marked (set marks k true) x ≡ true → (x ≡ k) ⊎ (x ≡ k → ⊥) → (i : ℕ) × (i < n + 1) × (next_at ns i ≡ Some x)
  found x m (inl same) = (n, omega arith, here ∙ ap Some (sym same))
  found x m (inr other) =
      let f : (i : ℕ) × (i < n) × (next_at ns i ≡ Some x) = h.found x (sym (get_or-set_other marks k x true false other) ∙ m) in
      (f.0, omega (arith, f.1), f.2)

  kept : (i x : ℕ) → i < n + 1 → next_at ns i ≡ Some x → (i ≡ n) ⊎ (i ≡ n → ⊥) → is_marked (set marks k true) x ≡ true
  kept i x l e (inl same) = now x (some-inj x k (sym e ∙ ap (next_at ns) same ∙ here))
  kept i x l e (inr d) = more x (h.kept i x (below i n l d) e)

  apart : (i j x : ℕ) → i < j → j < n + 1 → next_at ns i ≡ Some x → next_at ns j ≡ Some x → (j ≡ n) ⊎ (j ≡ n → ⊥) → ⊥
  apart i j x l m a b (inl same) =
      let e : x ≡ k = some-inj x k (sym b ∙ ap (next_at ns) same ∙ here) in
      true≢false (sym (h.kept i k (omega (arith, l, m)) (a ∙ ap Some e)) ∙ new)
  apart i j x l m a b (inr d) = h.apart i j x l (below j n m d) a b

-- one goes on at a number that is marked
pub marked-joined : (ns : List (Option ℕ)) (n k : ℕ) (marks : List Bool) → next_at ns n ≡ Some k → is_marked marks k ≡ true → AreNextsMarked ns n marks → Joined ns
marked-joined ns n k marks here m h =
    let f : (i : ℕ) × (i < n) × (next_at ns i ≡ Some k) = h.found k m in
    (f.0, n, k, f.1, f.2, here)

pub marked-apart : (ns : List (Option ℕ)) (n : ℕ) (marks : List Bool) → length ns ≤ n → AreNextsMarked ns n marks → Joined ns → ⊥
marked-apart ns n marks all h j = by (cases_lt j.1 n) where
  by : (j.1 < n) ⊎ (n ≤ j.1) → ⊥
  by (inl l) = h.apart j.0 j.1 j.2 j.3 l j.4 j.5
  by (inr l) = some-none j.2 (sym (get_or-eq_default ns None (omega (arith, all, l))) ∙ j.5)

pub joined-yes : (ns : List (Option ℕ)) (n k : ℕ) (marks : List Bool) → next_at ns n ≡ Some k → is_marked marks k ≡ true → AreNextsMarked ns n marks → (true ≡ true) ↔ Joined ns
joined-yes ns n k marks at m h = ((λ _. marked-joined ns n k marks at m h), (λ _. refl))

pub joined-no : (ns : List (Option ℕ)) (n : ℕ) (marks : List Bool) → length ns ≤ n → AreNextsMarked ns n marks → (false ≡ true) ↔ Joined ns
joined-no ns n marks l h = ((λ e. absurd (cc)), (λ j. absurd (marked-apart ns n marks l h j)))
