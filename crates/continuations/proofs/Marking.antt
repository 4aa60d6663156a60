-- A walk that marks what it meets.
use Rattle.std.proofs.Common.{◌≡◌, ◌∙◌, ◌+◌, ◌<◌, ◌≤◌, ℕ, zero, suc, Bool, true, false, cond, List, length, get_or, refl, ap, sym, subst, arith, Option, Some, ◌⊎◌, inl, inr, ⊎_elim, get_or-set_same, get_or-set_other, ◌++◌, take, drop}
use Rattle.std.proofs.Math.ListN.{set}
use Rattle.std.proofs.lemmas.Bool.{cases_eq, cases_lt}
use Rattle.std.proofs.lemmas.List.Sums.{sum_by-set}
use Rattle.std.proofs.lemmas.List.{take-append-le, take_all}
use Rattle.std.specs.List.{sum_by}
use Rattle.continuations.specs.Walks.{next_at, walk, is_marked, Reaches, AreReached}
use Rattle.continuations.proofs.Walking.{some-inj, first-step, reaches-self, reaches-next}

-- how many aren't marked
abbrev pub unmarked : List Bool → ℕ
unmarked marks = sum_by (λ b. cond b 0 1) marks

-- what a walk from a number has marked, and where it goes on
pub record Going (nexts : List (Option ℕ)) (old : List Bool) (from : ℕ) (marks : List Bool) (at : Option ℕ) : Type 0 where
  pub closed : (k j : ℕ) → is_marked marks k ≡ true → next_at nexts k ≡ Some j → (is_marked marks j ≡ true) ⊎ (at ≡ Some j)
  pub begun : (is_marked marks from ≡ true) ⊎ (at ≡ Some from)
  pub kept : (k : ℕ) → is_marked old k ≡ true → is_marked marks k ≡ true
  pub found : (k : ℕ) → is_marked marks k ≡ true → (is_marked old k ≡ true) ⊎ Reaches nexts from k
  pub comes : (j : ℕ) → at ≡ Some j → Reaches nexts from j

pub going-begins : (nexts : List (Option ℕ)) (old : List Bool) (first from : ℕ) → AreReached nexts first from old → Going nexts old from old (Some from)
going-begins nexts old first from r = record {
  closed = λ k j m e.
      let h : (h : ℕ) × (first ≤ h) × (h < from) × Reaches nexts h k = (r k).0 m in
      inl ((r j).1 h.0 h.1 h.2 (reaches-next nexts h.0 k j h.3 e));
  begun = inr refl;
  kept = λ k m. m;
  found = λ k m. inl m;
  comes = λ j e. subst (Reaches nexts from) (some-inj from j e) (reaches-self nexts from);
}

pub going-on : (nexts : List (Option ℕ)) (old : List Bool) (from : ℕ) (marks : List Bool) (at : Option ℕ) (k : ℕ)
    → at ≡ Some k → k < length marks → Going nexts old from marks at → Going nexts old from (set marks k true) (next_at nexts k)
going-on nexts old from marks at k is l g = record {
  closed = λ x j m e. ⊎_elim (λ (same : x ≡ k). inr (ap (next_at nexts) (sym same) ∙ e)) (λ (other : x ≡ k → ⊥). closed x j (before x other m) e) (cases_eq x k);
  begun = inl (⊎_elim (λ m. more from m) (λ e. now from (some-inj from k (sym e ∙ is))) g.begun);
  kept = λ x m. more x (g.kept x m);
  found = λ x m. ⊎_elim (λ (same : x ≡ k). inr (subst (Reaches nexts from) (sym same) (g.comes k is))) (λ (other : x ≡ k → ⊥). g.found x (before x other m)) (cases_eq x k);
  comes = λ j e. reaches-next nexts from k j (g.comes k is) e;
} where
  now : (x : ℕ) → x ≡ k → is_marked (set marks k true) x ≡ true
  now x same = ap (is_marked (set marks k true)) same ∙ get_or-set_same marks k true false l

  before : (x : ℕ) → (x ≡ k → ⊥) → is_marked (set marks k true) x ≡ true → is_marked marks x ≡ true
  before x other m = sym (get_or-set_other marks k x true false other) ∙ m

  more : (x : ℕ) → is_marked marks x ≡ true → is_marked (set marks k true) x ≡ true
  more x m = ⊎_elim (λ (same : x ≡ k). now x same) (λ (other : x ≡ k → ⊥). get_or-set_other marks k x true false other ∙ m) (cases_eq x k)

  closed : (x j : ℕ) → is_marked marks x ≡ true → next_at nexts x ≡ Some j → (is_marked (set marks k true) j ≡ true) ⊎ (next_at nexts k ≡ Some j)
  closed x j m e = ⊎_elim (λ m. inl (more j m)) (λ h. inl (now j (some-inj j k (sym h ∙ is)))) (g.closed x j m e)

-- a walk that has come to its end, or to what was marked
pub going-ends : (nexts : List (Option ℕ)) (old : List Bool) (first from : ℕ) (marks : List Bool) (at : Option ℕ)
    → first ≤ from → AreReached nexts first from old → ((j : ℕ) → at ≡ Some j → is_marked marks j ≡ true) → Going nexts old from marks at → AreReached nexts first (from + 1) marks
going-ends nexts old first from marks at l r met g = λ k. (λ m. found k (g.found k m), λ h low high reach. marked k h low reach (cases_lt h from) (omega (arith, high))) where
  found : (k : ℕ) → (is_marked old k ≡ true) ⊎ Reaches nexts from k → (h : ℕ) × (first ≤ h) × (h < from + 1) × Reaches nexts h k
  found k (inl m) = let h : (h : ℕ) × (first ≤ h) × (h < from) × Reaches nexts h k = (r k).0 m in (h.0, h.1, omega (arith, h.2), h.3)
  found k (inr reach) = (from, l, omega arith, reach)

  along : (t a b : ℕ) → walk nexts t a ≡ Some b → is_marked marks a ≡ true → is_marked marks b ≡ true
  along zero a b w m = subst (λ x. is_marked marks x ≡ true) (some-inj a b w) m
  along (suc t) a b w m =
      let f : (n : ℕ) × (next_at nexts a ≡ Some n) × (walk nexts t n ≡ Some b) = first-step nexts t a b w in
      along t f.0 b f.2 (⊎_elim (λ m. m) (λ e. met f.0 e) (g.closed a f.0 m f.1))

  marked : (k h : ℕ) → first ≤ h → Reaches nexts h k → (h < from) ⊎ (from ≤ h) → h ≤ from → is_marked marks k ≡ true
  marked k h low reach (inl b) high = g.kept k ((r k).1 h low b reach)
  marked k h low reach (inr b) high =
      let same : from ≡ h = omega (arith, b, high) in
      along reach.0 h k reach.1 (subst (λ x. is_marked marks x ≡ true) same (⊎_elim (λ m. m) (λ e. met from e) g.begun))

pub unmarked-less : (marks : List Bool) (k : ℕ) → k < length marks → is_marked marks k ≡ false → unmarked (set marks k true) < unmarked marks
unmarked-less marks k l m =
    let f : Bool → ℕ = λ b. cond b 0 1 in
    let e : sum_by f (set marks k true) + f (get_or marks k false) ≡ sum_by f marks + 0 = sum_by-set f marks k true false l in
    let h : f (get_or marks k false) ≡ 1 = ap f m in
    omega (arith, e, h)

-- what is written back into a list of this length
pub written-back : {X : Type 0} (n : ℕ) (new old : List X) → length new ≡ n → take n (new ++ drop (length new) old) ≡ new
written-back n new old e = ap (λ m. take m (new ++ drop (length new) old)) (sym e) ∙ take-append-le (length new) new (drop (length new) old) (omega arith) ∙ take_all _ new (omega arith)
