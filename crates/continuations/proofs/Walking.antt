-- Walks over numbered elements.
use Rattle.std.proofs.Common.{◌≡◌, ◌∙◌, ◌+◌, ◌<◌, ◌≤◌, ℕ, zero, suc, Bool, true, false, List, [], ◌∷◌, length, refl, ap, sym, subst, arith, Option, Some, None, ◌⊎◌, inl, inr}
use Rattle.std.proofs.Math.Dec.{eqb}
use Rattle.std.proofs.lemmas.Bool.{eqb-true}
use Rattle.std.proofs.lemmas.Map.Steps.{length-le_from_distinct_below}
use Rattle.std.specs.Prelude.{◌||◌, option_and_then}
use Rattle.std.specs.List.{list_any, IsDistinct, AllByRecursion}
use Rattle.std.specs.Option.{option_map_or}
use Rattle.continuations.specs.Walks.{next_at, walk, Reaches}

pub some-inj : {X : Type 0} (x y : X) → Some x ≡ Some y → x ≡ y
some-inj {X} x y e = ap (λ (o : Option X). out x o) e where
  out : X → Option X → X
  out d None = d
  out d (Some z) = z

-- the first step, and the rest
pub walk-from : (ns : List (Option ℕ)) (t a n : ℕ) → next_at ns a ≡ Some n → walk ns (suc t) a ≡ walk ns t n
walk-from ns t a n e = ap (option_and_then (walk ns t)) e

pub first-step : (ns : List (Option ℕ)) (t a b : ℕ) → walk ns (suc t) a ≡ Some b → (n : ℕ) × (next_at ns a ≡ Some n) × (walk ns t n ≡ Some b)
first-step ns t a b = by (next_at ns a) refl where
  by : (o : Option ℕ) → next_at ns a ≡ o → option_and_then (walk ns t) o ≡ Some b → (n : ℕ) × (next_at ns a ≡ Some n) × (walk ns t n ≡ Some b)
  by None e h = absurd cc
  by (Some n) e h = (n, e, h)

-- one step more
pub step-more : (ns : List (Option ℕ)) (t a b c : ℕ) → walk ns t a ≡ Some b → next_at ns b ≡ Some c → walk ns (suc t) a ≡ Some c
step-more ns zero a b c h e = ap (option_and_then (walk ns 0)) (ap (next_at ns) (some-inj a b h) ∙ e)
step-more ns (suc t) a b c h e =
    let f : (n : ℕ) × (next_at ns a ≡ Some n) × (walk ns t n ≡ Some b) = first-step ns t a b h in
    walk-from ns (suc t) a f.0 f.1 ∙ step-more ns t f.0 b c f.2 e

-- a walk and another behind it
pub walks : (ns : List (Option ℕ)) (t u a b c : ℕ) → walk ns t a ≡ Some b → walk ns u b ≡ Some c → walk ns (t + u) a ≡ Some c
walks ns t zero a b c h k = ap (λ m. walk ns m a) (omega arith) ∙ h ∙ k
walks ns t (suc u) a b c h k =
    let f : (n : ℕ) × (next_at ns b ≡ Some n) × (walk ns u n ≡ Some c) = first-step ns u b c k in
    ap (λ m. walk ns m a) (omega arith) ∙ walks ns (suc t) u a f.0 c (step-more ns t a b f.0 h f.1) f.2

pub reaches-self : (ns : List (Option ℕ)) (a : ℕ) → Reaches ns a a
reaches-self ns a = (0, refl)

pub reaches-on : (ns : List (Option ℕ)) (a b c : ℕ) → Reaches ns a b → Reaches ns b c → Reaches ns a c
reaches-on ns a b c h k = (h.0 + k.0, walks ns h.0 k.0 a b c h.1 k.1)

pub reaches-next : (ns : List (Option ℕ)) (a b c : ℕ) → Reaches ns a b → next_at ns b ≡ Some c → Reaches ns a c
reaches-next ns a b c h e = (suc h.0, step-more ns h.0 a b c h.1 e)

-- of two that one reaches, one reaches the other
pub reaches-both : (ns : List (Option ℕ)) (t u a b c : ℕ) → walk ns t a ≡ Some b → walk ns u a ≡ Some c → Reaches ns b c ⊎ Reaches ns c b
reaches-both ns zero u a b c h k = inl (u, ap (walk ns u) (sym (some-inj a b h)) ∙ k)
reaches-both ns (suc t) zero a b c h k = inr (suc t, ap (walk ns (suc t)) (sym (some-inj a c k)) ∙ h)
reaches-both ns (suc t) (suc u) a b c h k =
    let f : (n : ℕ) × (next_at ns a ≡ Some n) × (walk ns t n ≡ Some b) = first-step ns t a b h in
    reaches-both ns t u f.0 b c f.2 (sym (walk-from ns u a f.0 f.1) ∙ k)

-- the numbers behind the first of a walk
path : List (Option ℕ) → ℕ → ℕ → List ℕ
path ns zero a = []
path ns (suc t) a = option_map_or (λ n. n ∷ path ns t n) (next_at ns a) []

path-from : (ns : List (Option ℕ)) (t a n : ℕ) → next_at ns a ≡ Some n → path ns (suc t) a ≡ n ∷ path ns t n
unfolding path
path-from ns t a n e = ap (λ o. option_map_or (λ n. n ∷ path ns t n) o []) e

-- the number isn't among these
abbrev Absent : ℕ → List ℕ → Type 0
Absent k xs = AllByRecursion (λ y. eqb k y ≡ false) xs

is-absent : (k : ℕ) (xs : List ℕ) → Absent k xs ⊎ (list_any (eqb k) xs ≡ true)
is-absent k [] = inl (tt {0})
is-absent k (x ∷ xs) = by (eqb k x) refl (is-absent k xs) where
  by : (c : Bool) → eqb k x ≡ c → Absent k xs ⊎ (list_any (eqb k) xs ≡ true) → Absent k (x ∷ xs) ⊎ (list_any (eqb k) (x ∷ xs) ≡ true)
  by true e h = inr (ap (λ c. c || list_any (eqb k) xs) e)
  by false e (inl h) = inl (e, h)
  by false e (inr h) = inr (ap (λ c. c || list_any (eqb k) xs) e ∙ h)

-- a walk whose numbers behind the first differ, and which never comes back to the first
record Short (ns : List (Option ℕ)) (a b : ℕ) : Type 0 where
  steps : ℕ
  leads : walk ns steps a ≡ Some b
  distinct : IsDistinct eqb (path ns steps a)
  leaves : Absent a (path ns steps a)

-- a walk that comes back to a number begins anew from there
from-last : (ns : List (Option ℕ)) (t m k b : ℕ) → walk ns t m ≡ Some b → IsDistinct eqb (path ns t m) → list_any (eqb k) (path ns t m) ≡ true → Short ns k b
unfolding path IsDistinct
from-last ns zero m k b h d i = absurd cc
from-last ns (suc t) m k b h d i =
    let f : (n : ℕ) × (next_at ns m ≡ Some n) × (walk ns t n ≡ Some b) = first-step ns t m b h in
    let e : path ns (suc t) m ≡ f.0 ∷ path ns t f.0 = path-from ns t m f.0 f.1 in
    let d' : IsDistinct eqb (f.0 ∷ path ns t f.0) = subst (IsDistinct eqb) e d in
    by f.0 f.2 d' (from-last ns t f.0 k b f.2 d'.1) (eqb k f.0) refl (sym (ap (list_any (eqb k)) e) ∙ i) where
      by : (n : ℕ) → walk ns t n ≡ Some b → IsDistinct eqb (n ∷ path ns t n) → (list_any (eqb k) (path ns t n) ≡ true → Short ns k b)
          → (c : Bool) → eqb k n ≡ c → list_any (eqb k) (n ∷ path ns t n) ≡ true → Short ns k b
      by n w d later true e i =
          let same : n ≡ k = sym (eqb-true k n e) in
          record {
            steps = t;
            leads = subst (λ x. walk ns t x ≡ Some b) same w;
            distinct = subst (λ x. IsDistinct eqb (path ns t x)) same d.1;
            leaves = subst (λ x. Absent x (path ns t x)) same d.0;
          }
      by n w d later false e i = later (sym (ap (λ c. c || list_any (eqb k) (path ns t n)) e) ∙ i)

-- each walk can be made short
shorten : (ns : List (Option ℕ)) (t a b : ℕ) → walk ns t a ≡ Some b → Short ns a b
unfolding path IsDistinct
shorten ns zero a b h = record { steps = 0; leads = h; distinct = tt {0}; leaves = tt {0} }
shorten ns (suc t) a b h =
    let f : (n : ℕ) × (next_at ns a ≡ Some n) × (walk ns t n ≡ Some b) = first-step ns t a b h in
    by f.0 f.1 (shorten ns t f.0 b f.2) where
      step : (n : ℕ) → next_at ns a ≡ Some n → (s : Short ns n b) → Absent a (n ∷ path ns s.steps n) ⊎ (list_any (eqb a) (n ∷ path ns s.steps n) ≡ true) → Short ns a b
      step n e s (inl i) = record {
        steps = suc s.steps;
        leads = walk-from ns s.steps a n e ∙ s.leads;
        distinct = subst (IsDistinct eqb) (sym (path-from ns s.steps a n e)) (s.leaves, s.distinct);
        leaves = subst (Absent a) (sym (path-from ns s.steps a n e)) i;
      }
      step n e s (inr i) =
          from-last ns (suc s.steps) a a b (walk-from ns s.steps a n e ∙ s.leads)
          (subst (IsDistinct eqb) (sym (path-from ns s.steps a n e)) (s.leaves, s.distinct))
          (ap (list_any (eqb a)) (path-from ns s.steps a n e) ∙ i)

      by : (n : ℕ) → next_at ns a ≡ Some n → Short ns n b → Short ns a b
      by n e s = step n e s (is-absent a (n ∷ path ns s.steps n))

length-path : (ns : List (Option ℕ)) (t a b : ℕ) → walk ns t a ≡ Some b → length (path ns t a) ≡ t
unfolding path
length-path ns zero a b h = refl
length-path ns (suc t) a b h =
    let f : (n : ℕ) × (next_at ns a ≡ Some n) × (walk ns t n ≡ Some b) = first-step ns t a b h in
    ap length (path-from ns t a f.0 f.1) ∙ ap suc (length-path ns t f.0 b f.2)

path-below : (ns : List (Option ℕ)) (count : ℕ) → ((k j : ℕ) → next_at ns k ≡ Some j → j < count)
    → (t a q : ℕ) → list_any (eqb q) (path ns t a) ≡ true → q < count
unfolding path
path-below ns count h zero a q i = absurd cc
path-below ns count h (suc t) a q i = by (next_at ns a) refl (λ n. path-below ns count h t n q) i where
  among : (n : ℕ) → next_at ns a ≡ Some n → (list_any (eqb q) (path ns t n) ≡ true → q < count) → (c : Bool) → eqb q n ≡ c → list_any (eqb q) (n ∷ path ns t n) ≡ true → q < count
  among n e later true same i = subst (λ x. x < count) (sym (eqb-true q n same)) (h a n e)
  among n e later false same i = later (sym (ap (λ c. c || list_any (eqb q) (path ns t n)) same) ∙ i)

  by : (o : Option ℕ) → next_at ns a ≡ o → ((n : ℕ) → list_any (eqb q) (path ns t n) ≡ true → q < count) → list_any (eqb q) (option_map_or (λ n. n ∷ path ns t n) o []) ≡ true → q < count
  by None e later i = absurd cc
  by (Some n) e later i = among n e (later n) (eqb q n) refl i

-- what is reached is reached in no more steps than there are numbers to which any leads
pub soon : (ns : List (Option ℕ)) (count : ℕ) → ((k j : ℕ) → next_at ns k ≡ Some j → j < count)
    → (a b : ℕ) → Reaches ns a b → (t : ℕ) × (t ≤ count) × (walk ns t a ≡ Some b)
soon ns count h a b r =
    let s : Short ns a b = shorten ns r.0 a b r.1 in
    let l : length (path ns s.steps a) ≤ count = length-le_from_distinct_below (path ns s.steps a) count s.distinct (λ q. path-below ns count h s.steps a q) in
    let e : length (path ns s.steps a) ≡ s.steps = length-path ns s.steps a b s.leads in
    (s.steps, omega (arith, l, e), s.leads)
