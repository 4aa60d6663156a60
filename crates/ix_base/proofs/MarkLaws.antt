-- A name whose mark none of the attributes has is the name of none.
use Rattle.std.proofs.Common.{◌≡◌, ◌<◌, ◌+◌, ◌^◌, ◌&&◌, ℕ, Bool, List, [], ◌∷◌, ◌==◌, Option, Some, None, refl, sym, ap, ◌∙◌, subst, true, false, if◌then◌else◌, bytes_eq, arith}
use Rattle.std.specs.Int.{bit_at}
use Rattle.std.specs.Int.Bits.{bit_or}
use Rattle.std.proofs.lemmas.Slice.Eq.{bytes_eq-Decides}
use Rattle.std.proofs.lemmas.Nat.Bits.{bit_at_or, bit_at-pow_same, bit_at-lt}
use Rattle.ix_base.specs.Attributes.{Valued, is_named, value_of}
use Rattle.ix_base.specs.Marks.{mark, marks_with, marks_of}

-- a mark that is there stays
stays : (m n k : ℕ) → bit_at m k ≡ 1 → bit_at (bit_or m n) k ≡ 1
stays m n k h = let e = bit_at_or m n k in let l = bit_at-lt n k in omega (arith, e, l, h)

kept : (m : ℕ) (attrs : List Valued) (k : ℕ) → bit_at m k ≡ 1 → bit_at (marks_with m attrs) k ≡ 1
kept m [] k h = h
kept m (a ∷ more) k h = kept (bit_or m (2 ^ mark a.name.local)) more k (stays m (2 ^ mark a.name.local) k h)

own : (m k : ℕ) → bit_at (bit_or m (2 ^ k)) k ≡ 1
own m k = let e = bit_at_or m (2 ^ k) k in let s = bit_at-pow_same k in let l = bit_at-lt m k in omega (arith, e, s, l)

-- two texts that are both compared and equal are one
second : (a b : Bool) → (a && b) ≡ true → b ≡ true
second true b e = e
second false b e = let f : false ≡ true = e in cc

named-marks : (m : ℕ) (a : Valued) (more : List Valued) (ns local : List ℕ) → is_named a ns local ≡ true
    → bit_at (marks_with m (a ∷ more)) (mark local) ≡ 1
named-marks m a more ns local e =
    let same : a.name.local ≡ local = (bytes_eq-Decides a.name.local local).0 (second (bytes_eq a.name.ns ns) (bytes_eq a.name.local local) e) in
    subst (λ l. bit_at (marks_with m (a ∷ more)) (mark l) ≡ 1) same
    (kept (bit_or m (2 ^ mark a.name.local)) more (mark a.name.local) (own m (mark a.name.local)))

is-one : (n : ℕ) → n ≡ 1 → (n == 1) ≡ false → ⊥
is-one n e h = let f : (1 == 1) ≡ false = subst (λ k. (k == 1) ≡ false) e h in cc

none-by : (b : Bool) (a : Valued) (rest : Option (List ℕ)) → (b ≡ true → ⊥) → rest ≡ None → (if b then Some a.value else rest) ≡ None
none-by true a rest apart e = absurd (apart refl)
none-by false a rest apart e = e

none-with : (m : ℕ) (attrs : List Valued) (ns local : List ℕ) → (bit_at (marks_with m attrs) (mark local) == 1) ≡ false
    → value_of attrs ns local ≡ None
none-with m [] ns local h = refl
none-with m (a ∷ more) ns local h = none-by (is_named a ns local) a (value_of more ns local)
    (λ e. is-one (bit_at (marks_with m (a ∷ more)) (mark local)) (named-marks m a more ns local e) h)
    (none-with (bit_or m (2 ^ mark a.name.local)) more ns local h)

pub none_unmarked : (attrs : List Valued) (ns local : List ℕ) → (bit_at (marks_of attrs) (mark local) == 1) ≡ false
    → value_of attrs ns local ≡ None
none_unmarked attrs ns local h = none-with 0 attrs ns local h
