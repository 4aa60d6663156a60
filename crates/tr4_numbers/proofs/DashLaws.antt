-- A text is one dash alone exactly where it is read as one.
use Rattle.std.proofs.Common.{◌≡◌, ◌⊎◌, ℕ, ◌||◌, ◌&&◌, ◌==◌, not, ◌<◌, ◌≤◌, ◌+◌, Bool, true, false, cond, List, [], ◌∷◌, ◌++◌, length, get_or, drop, refl, sym, ap, subst, inl, inr, ◌∙◌}
use Rattle.std.proofs.lemmas.Bool.{cases_Bool, eqb-true}
use Rattle.std.proofs.lemmas.List.{drop_all, drop_more}
use Rattle.tr4_numbers.specs.Transformation.{is_space, is_line, is_dash, AreDropped, IsDash, IsBetween}
use Rattle.tr4_numbers.specs.Readers.{reads_dash}

-- what a turn of the reader says
turn-by : (dropped dash was x y : Bool) → cond dropped x (cond (dash && not was) y false) ≡ true → ((dropped ≡ true) × (x ≡ true)) ⊎ ((dash ≡ true) × (y ≡ true))
turn-by true dash was x y h = inl (refl, h)
turn-by false true false x y h = inr (refl, h)
turn-by false true true x y h = absurd (let z : false ≡ true = h in cc)
turn-by false false was x y h = absurd (let z : false ≡ true = h in cc)

behind-by : (dropped dash x : Bool) → cond dropped x (cond (dash && not true) x false) ≡ true → (dropped ≡ true) × (x ≡ true)
behind-by true dash x h = (refl, h)
behind-by false true x h = absurd (let z : false ≡ true = h in cc)
behind-by false false x h = absurd (let z : false ≡ true = h in cc)

behind : (cs : List ℕ) → reads_dash true cs ≡ true → AreDropped cs
behind [] h = tt
behind (c ∷ cs) h = let k = behind-by (is_space c || is_line c) (is_dash c) (reads_dash true cs) h in (k.0, behind cs k.1)

-- a text that is read as one dash is one
pub one-dash : (cs : List ℕ) → reads_dash false cs ≡ true → IsBetween (λ dash value. IsDash dash) cs []
one-dash [] h = absurd (let z : false ≡ true = h in cc)
one-dash (c ∷ cs) h = elim (turn-by (is_space c || is_line c) (is_dash c) false (reads_dash false cs) (reads_dash true cs) h) [
  | inl e ↦ let r = one-dash cs e.1 in record {
    before = c ∷ r.before;
    number = r.number;
    after = r.after;
    dropped_before = (e.0, r.dropped_before);
    dropped_after = r.dropped_after;
    parts = ap (λ l. c ∷ l) r.parts;
    row = r.row;
  }
  | inr e ↦ record {
    before = [];
    number = c ∷ [];
    after = cs;
    dropped_before = tt;
    dropped_after = behind cs e.1;
    parts = refl;
    row = e.0;
  }
]

or-true : (a b : Bool) → (a || b) ≡ true → (a ≡ true) ⊎ (b ≡ true)
or-true true b h = inl refl
or-true false b h = inr h

-- no dash is dropped
no-dash : (c n : ℕ) → (c == n) ≡ true → is_dash n ≡ false → is_dash c ≡ true → ⊥
no-dash c n e f d = let g : is_dash n ≡ true = subst (λ x. is_dash x ≡ true) (eqb-true c n e) d in let z : false ≡ true = sym f ∙ g in cc

not-space : (c : ℕ) → is_dash c ≡ true → is_space c ≡ true → ⊥
not-space c d s = elim (or-true (c == 0x20) _ s) [
  | inl e ↦ no-dash c 0x20 e refl d
  | inr f ↦ elim (or-true (c == 0xA0) _ f) [
    | inl e ↦ no-dash c 0xA0 e refl d
    | inr g ↦ elim (or-true (c == 0x2009) (c == 0x202F) g) [
      | inl e ↦ no-dash c 0x2009 e refl d
      | inr e ↦ no-dash c 0x202F e refl d
    ]
  ]
]

not-line : (c : ℕ) → is_dash c ≡ true → is_line c ≡ true → ⊥
not-line c d s = elim (or-true (c == 9) _ s) [
  | inl e ↦ no-dash c 9 e refl d
  | inr g ↦ elim (or-true (c == 10) (c == 13) g) [
    | inl e ↦ no-dash c 10 e refl d
    | inr e ↦ no-dash c 13 e refl d
  ]
]

dash-stays : (c : ℕ) → is_dash c ≡ true → (is_space c || is_line c) ≡ false
dash-stays c d = elim (cases_Bool (is_space c || is_line c)) [
  | inl e ↦ elim (or-true (is_space c) (is_line c) e) [
    | inl s ↦ absurd (not-space c d s)
    | inr l ↦ absurd (not-line c d l)
  ]
  | inr e ↦ e
]

dropped-read : (was : Bool) (b cs : List ℕ) → AreDropped b → reads_dash was (b ++ cs) ≡ reads_dash was cs
dropped-read was [] cs d = refl
dropped-read was (c ∷ b) cs d = rw d.0 (dropped-read was b cs d.1)

all-dropped : (cs : List ℕ) → AreDropped cs → reads_dash true cs ≡ true
all-dropped [] d = refl
all-dropped (c ∷ cs) d = rw d.0 (all-dropped cs d.1)

dash-read : (dash after : List ℕ) → IsDash dash → AreDropped after → reads_dash false (dash ++ after) ≡ true
dash-read [] after row d = absurd row
dash-read (c ∷ []) after row d = rw (dash-stays c row, row) (all-dropped after d)
dash-read (c ∷ e ∷ cs) after row d = absurd row

-- and one dash is read so
pub read-dash : (cs : List ℕ) → IsBetween (λ dash value. IsDash dash) cs [] → reads_dash false cs ≡ true
read-dash cs b = ap (reads_dash false) b.parts ∙ dropped-read false b.before (b.number ++ b.after) b.dropped_before ∙ dash-read b.number b.after b.row b.dropped_after

pub no-read : (cs : List ℕ) → reads_dash false cs ≡ false → IsBetween (λ dash value. IsDash dash) cs [] → ⊥
no-read cs h b = let z : true ≡ false = sym (read-dash cs b) ∙ h in cc

-- Turn by turn.

drop-at : (cs : List ℕ) (n c : ℕ) → (n < length cs) × (c ≡ get_or cs n c) → drop n cs ≡ c ∷ drop (n + 1) cs
drop-at cs n c h = drop_more cs n c h.0 ∙ ap (λ x. x ∷ drop (n + 1) cs) (sym h.1)

-- what is read of the rest is what is read of the whole
abbrev pub ReadsOn : List ℕ → ℕ → Bool → Type 0
ReadsOn cs n was = reads_dash was (drop n cs) ≡ reads_dash false cs

module _ (cs : List ℕ) (n c : ℕ) (t : (n < length cs) × (c ≡ get_or cs n c)) where
  pub over-dropped : (was : Bool) → (is_space c || is_line c) ≡ true → ReadsOn cs n was → ReadsOn cs (n + 1) was
  over-dropped was d h = let k : reads_dash was (c ∷ drop (n + 1) cs) ≡ reads_dash was (drop (n + 1) cs) = rw d refl in sym k ∙ ap (reads_dash was) (sym (drop-at cs n c t)) ∙ h

  pub over-dash : (is_space c || is_line c) ≡ false → is_dash c ≡ true → ReadsOn cs n false → ReadsOn cs (n + 1) true
  over-dash d e h = let k : reads_dash false (c ∷ drop (n + 1) cs) ≡ reads_dash true (drop (n + 1) cs) = rw (d, e) refl in sym k ∙ ap (reads_dash false) (sym (drop-at cs n c t)) ∙ h

  pub second : (was : Bool) → (is_space c || is_line c) ≡ false → (was || not (is_dash c)) ≡ true → ReadsOn cs n was → false ≡ reads_dash false cs
  second was d e h = sym (by was (is_dash c) e (reads_dash true (drop (n + 1) cs)) (reads_dash was (drop (n + 1) cs)) (is_space c || is_line c) d) ∙ ap (reads_dash was) (sym (drop-at cs n c t)) ∙ h
    where
      by : (w dash : Bool) → (w || not dash) ≡ true → (y x : Bool) (dropped : Bool) → dropped ≡ false → cond dropped x (cond (dash && not w) y false) ≡ false
      by w dash e y x true d = absurd (let z : true ≡ false = d in cc)
      by true true e y x false d = refl
      by true false e y x false d = refl
      by false false e y x false d = refl
      by false true e y x false d = absurd (let z : false ≡ true = e in cc)

pub at-end : (cs : List ℕ) (n : ℕ) (was : Bool) → length cs ≤ n → ReadsOn cs n was → was ≡ reads_dash false cs
at-end cs n was t h = ap (reads_dash was) (sym (drop_all n cs t)) ∙ h
