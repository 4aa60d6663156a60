-- What stands before a byte, and names.
use Rattle.std.proofs.Common.{◌≡◌, ℕ, ◌==◌, Bool, true, false, ◌&&◌, ◌||◌, ◌⊎◌, inl, inr, List, [], ◌∷◌, ◌++◌, length, take, drop, Option, Some, None, refl, sym, ap, ◌∙◌, subst, bytes_eq}
use Rattle.std.specs.List.{list_all}
use Rattle.std.proofs.lemmas.Bool.Decides.{Decides-eqb}
use Rattle.std.proofs.lemmas.Slice.Eq.{bytes_eq-Decides}
use Rattle.page_constructs.specs.Constructs.{starts}
use Rattle.page_constructs.specs.Meanings.{before, from, given, ◌>>=◌}
use Rattle.page_constructs.proofs.BoolLaws.{and_left, and_right}

pub clash : {A : Type 0} (b : Bool) → b ≡ true → b ≡ false → A
clash b t f = let z : true ≡ false = sym t ∙ f in absurd (cc)

-- a number is this one, or the test says that it isn't
pub same_or : (c k : ℕ) → (c ≡ k) ⊎ ((c == k) ≡ false)
same_or c k = elim (c == k) as (λ b. (c == k) ≡ b → (c ≡ k) ⊎ ((c == k) ≡ false)) [
  | true ↦ λ e. inl ((Decides-eqb c k).0 e)
  | false ↦ λ e. inr e
] refl

pub is_same : (k : ℕ) → (k == k) ≡ true
is_same k = (Decides-eqb k k).1 refl

pub one_number : (c k : ℕ) → (c == k) ≡ true → c ≡ k
one_number c k e = (Decides-eqb c k).0 e

-- a byte that passes a test that this one doesn't is another
pub not_this : (f : ℕ → Bool) (k c : ℕ) → f k ≡ false → f c ≡ true → (c == k) ≡ false
not_this f k c off on = elim (same_or c k) as (λ x. (c == k) ≡ false) [
  | inl e ↦ clash (f k) (subst (λ x. f x ≡ true) e on) off
  | inr n ↦ n
]

pub or_left : (a b : Bool) → (a || b) ≡ false → a ≡ false
or_left true b h = absurd (cc)
or_left false b h = refl

pub or_right : (a b : Bool) → (a || b) ≡ false → b ≡ false
or_right true b h = absurd (cc)
or_right false b h = h

pub and_both : (a b : Bool) → a ≡ true → b ≡ true → (a && b) ≡ true
and_both a b p q = rw (p, q) refl

pub either : (b : Bool) → (b ≡ true) ⊎ (b ≡ false)
either true = inl refl
either false = inr refl

-- no byte passes the test
abbrev pub NoneStops : (ℕ → Bool) → List ℕ → Type 0
NoneStops f [] = Unit {0}
NoneStops f (c ∷ cs) = (f c ≡ false) × NoneStops f cs

-- the bytes are none, or the first passes the test
abbrev pub Stops : (ℕ → Bool) → List ℕ → Type 0
Stops f [] = Unit {0}
Stops f (c ∷ cs) = f c ≡ true

pub before-span : (f : ℕ → Bool) (p x : List ℕ) → NoneStops f p → Stops f x → before f (p ++ x) ≡ p
before-span f [] [] n s = refl
before-span f [] (c ∷ x) n s = rw s refl
before-span f (c ∷ p) x n s = rw (n.0, before-span f p x n.1 s) refl

pub from-span : (f : ℕ → Bool) (p x : List ℕ) → NoneStops f p → Stops f x → from f (p ++ x) ≡ x
from-span f [] [] n s = refl
from-span f [] (c ∷ x) n s = rw s refl
from-span f (c ∷ p) x n s = rw (n.0) (from-span f p x n.1 s)

pub before-from : (f : ℕ → Bool) (t : List ℕ) → t ≡ before f t ++ from f t
before-from f [] = refl
before-from f (c ∷ t) = elim (either (f c)) as (λ x. c ∷ t ≡ before f (c ∷ t) ++ from f (c ∷ t)) [
  | inl y ↦ rw y refl
  | inr n ↦ rw n (ap (λ x. c ∷ x) (before-from f t))
]

pub before-none : (f : ℕ → Bool) (t : List ℕ) → NoneStops f (before f t)
before-none f [] = tt
before-none f (c ∷ t) = elim (either (f c)) as (λ x. NoneStops f (before f (c ∷ t))) [
  | inl y ↦ rw y tt
  | inr n ↦ rw n (n, before-none f t)
]

pub from-stops : (f : ℕ → Bool) (t : List ℕ) → Stops f (from f t)
from-stops f [] = tt
from-stops f (c ∷ t) = elim (either (f c)) as (λ x. Stops f (from f (c ∷ t))) [
  | inl y ↦ rw y y
  | inr n ↦ rw n (from-stops f t)
]

pub none-all : (f g : ℕ → Bool) → ((c : ℕ) → g c ≡ true → f c ≡ false) → (t : List ℕ) → list_all g t ≡ true → NoneStops f t
none-all f g h [] a = tt
none-all f g h (c ∷ t) a = (h c (and_left (g c) (list_all g t) a), none-all f g h t (and_right (g c) (list_all g t) a))

pub all-none : (f g : ℕ → Bool) → ((c : ℕ) → f c ≡ false → g c ≡ true) → (t : List ℕ) → NoneStops f t → list_all g t ≡ true
all-none f g h [] a = refl
all-none f g h (c ∷ t) a = and_both (g c) (list_all g t) (h c a.0) (all-none f g h t a.1)

pub bind-some : {A B : Type 0} (o : Option A) (f : A → Option B) (y : B) → (o >>= f) ≡ Some y → (x : A) × (o ≡ Some x) × (f x ≡ Some y)
bind-some None f y e = absurd (cc)
bind-some (Some x) f y e = (x, refl, e)

pub given-some : {B : Type 0} (b : Bool) (f : Unit {0} → Option B) (y : B) → (given b >>= f) ≡ Some y → (b ≡ true) × (f tt ≡ Some y)
given-some true f y e = (refl, e)
given-some false f y e = absurd (cc)

pub starts-front : (p t : List ℕ) → starts p t ≡ true → t ≡ p ++ drop (length p) t
starts-front [] t h = refl
starts-front (p ∷ ps) [] h = absurd (cc)
starts-front (p ∷ ps) (c ∷ t) h =
    let same : c ≡ p = one_number c p (and_left (c == p) (starts ps t) h) in
    let rest = starts-front ps t (and_right (c == p) (starts ps t) h) in
    rw same (ap (λ x. p ∷ x) rest)

pub starts-append : (p t : List ℕ) → starts p (p ++ t) ≡ true
starts-append [] t = refl
starts-append (p ∷ ps) t = rw (is_same p) (starts-append ps t)

pub drop-front : (p t : List ℕ) → drop (length p) (p ++ t) ≡ t
drop-front [] t = refl
drop-front (p ∷ ps) t = drop-front ps t

pub take-front : (p t : List ℕ) → take (length p) (p ++ t) ≡ p
take-front [] t = refl
take-front (p ∷ ps) t = ap (λ x. p ∷ x) (take-front ps t)

pub bytes-one : (m n : List ℕ) → bytes_eq m n ≡ true → m ≡ n
bytes-one m n e = (bytes_eq-Decides m n).0 e

pub bytes-same : (m : List ℕ) → bytes_eq m m ≡ true
bytes-same m = (bytes_eq-Decides m m).1 refl

pub bytes-apart : (m n : List ℕ) → (m ≡ n → ⊥) → bytes_eq m n ≡ false
bytes-apart m n h = elim (either (bytes_eq m n)) as (λ x. bytes_eq m n ≡ false) [
  | inl y ↦ absurd (h (bytes-one m n y))
  | inr f ↦ f
]
