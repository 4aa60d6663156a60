-- The keys of the months' names, and what they have not. This file alone computes them.
use Rattle.std.proofs.Common.{◌≡◌, ℕ, Bool, true, false, cond, not, ◌&&◌, ◌||◌, List, [], ◌∷◌, ◌++◌, map, chars, codes, refl, sym, ap, ◌∙◌, bytes_eq, take, arith, eqb, ltb, inl, inr, append-nil}
use Rattle.std.specs.Str.{chars}
use Rattle.std.specs.Char.{is_ascii_digit, to_ascii_lowercase}
use Rattle.std.proofs.lemmas.Bool.{and_parts, cases_Bool, cond-true, cond-false, or_left, or_right, or_cases, ltb-true, false≢true}
use Rattle.std.proofs.lemmas.Slice.Eq.{bytes_eq-Decides}
use Rattle.caseless.specs.Caseless.{canonical_key}
use Rattle.caseless.proofs.Computing.{caseless}
use Rattle.tr4_dates.specs.declared.format.Language.{Language}
use Rattle.tr4_dates.specs.declared.format.Language.TheVariants.{En, De, Fr, Es, It, Nl}
use Rattle.tr4_dates.specs.Languages.{Row, names, has_links}
use Rattle.tr4_dates.proofs.Keys.{key_at, key_parted, key-nil}

pub bytes_eq-true : (xs ys : List ℕ) → bytes_eq xs ys ≡ true → xs ≡ ys
bytes_eq-true xs ys h = (bytes_eq-Decides xs ys).0 h

pub bytes_eq-same : (xs ys : List ℕ) → xs ≡ ys → bytes_eq xs ys ≡ true
bytes_eq-same xs ys e = (bytes_eq-Decides xs ys).1 e

-- ---- the key of a name, character by character

-- a character that isn't ASCII has an ASCII one behind it, or ends the name
unfoldable is_spread : List ℕ → Bool
is_spread [] = true
is_spread (c ∷ []) = true
is_spread (c ∷ d ∷ ds) = (ltb c 128 || ltb d 128) && is_spread (d ∷ ds)

unfoldable key_by_character : List ℕ → List ℕ
key_by_character [] = []
key_by_character (c ∷ cs) =
    cond (ltb c 128) (to_ascii_lowercase c ∷ key_by_character cs) (canonical_key (c ∷ []) ++ key_by_character cs)

key_spread : (w : List ℕ) → is_spread w ≡ true → canonical_key w ≡ key_by_character w
unfolding is_spread key_by_character
key_spread [] spread = key-nil
key_spread (c ∷ []) spread =
    elim (cases_Bool (ltb c 128)) [
      | inl ascii ↦ key_at c [] (ltb-true _ _ ascii) ∙ ap (λ t. to_ascii_lowercase c ∷ t) key-nil ∙ sym (cond-true _ _ _ ascii)
      | inr wide ↦ sym (append-nil (canonical_key (c ∷ []))) ∙ sym (cond-false _ _ _ wide)
    ]
key_spread (c ∷ d ∷ ds) spread =
    let parts = and_parts (ltb c 128 || ltb d 128) _ spread in
    let next = key_spread (d ∷ ds) parts.1 in
    elim (cases_Bool (ltb c 128)) [
      | inl ascii ↦ key_at c (d ∷ ds) (ltb-true _ _ ascii) ∙ ap (λ t. to_ascii_lowercase c ∷ t) next ∙ sym (cond-true _ _ _ ascii)
      | inr wide ↦
          elim (or_cases (ltb c 128) (ltb d 128) parts.0) [
            | inl ascii ↦ absurd (false≢true (sym wide ∙ ascii))
            | inr ascii ↦
                key_parted (c ∷ []) d ds (ltb-true _ _ ascii)
                ∙ ap (λ t. canonical_key (c ∷ []) ++ t) (sym (key_at d ds (ltb-true _ _ ascii)) ∙ next)
                ∙ sym (cond-false _ _ _ wide)
          ]
    ]

-- ---- tests of a key

pub no_digits : List ℕ → Bool
no_digits [] = true
no_digits (c ∷ cs) = not (is_ascii_digit c) && no_digits cs

pub no_digits-at : (xs : List ℕ) (c : ℕ) (ys : List ℕ) → no_digits (xs ++ c ∷ ys) ≡ true → is_ascii_digit c ≡ false
unfolding no_digits
no_digits-at [] c ys h = grind arith
no_digits-at (x ∷ xs) c ys h = no_digits-at xs c ys (and_parts (not (is_ascii_digit x)) _ h).1

pub has_end : List ℕ → List ℕ → Bool
has_end w [] = bytes_eq w []
has_end w (c ∷ cs) = bytes_eq w (c ∷ cs) || has_end w cs

pub has_end-append : (w xs : List ℕ) → has_end w (xs ++ w) ≡ true
unfolding has_end
has_end-append [] [] = bytes_eq-same [] [] refl
has_end-append (c ∷ cs) [] = or_left (bytes_eq (c ∷ cs) (c ∷ cs)) _ (bytes_eq-same (c ∷ cs) (c ∷ cs) refl)
has_end-append w (x ∷ xs) = or_right (bytes_eq w (x ∷ (xs ++ w))) _ (has_end-append w xs)

unfoldable pub no_link : List ℕ → Bool
no_link key = not (bytes_eq (take 2 key) (codes "de")) && (not (has_end (codes "de") key) && not (has_end (codes "del") key))

unfoldable pub is_plain : Language → List ℕ → Bool
is_plain l key = no_digits key && (not (has_links l) || no_link key)

abbrev pub are_plain : Language → List Row → Bool
are_plain l [] = true
are_plain l (row ∷ rows) = is_plain l row.0 && are_plain l rows

abbrev pub keyed : List Row → List Row
keyed = map (λ row. (canonical_key row.0, row.1))

-- one month for each key
abbrev pub agrees : Row → List Row → Bool
agrees row [] = true
agrees row (next ∷ rows) = (not (bytes_eq row.0 next.0) || eqb row.1 next.1) && agrees row rows

abbrev pub all_agree : List Row → Bool
all_agree [] = true
all_agree (row ∷ rows) = agrees row rows && all_agree rows

-- ---- the tests of all names

abbrev all_spread : List Row → Bool
all_spread [] = true
all_spread (row ∷ rows) = is_spread row.0 && all_spread rows

abbrev keyed_by_character : List Row → List Row
keyed_by_character = map (λ row. (key_by_character row.0, row.1))

keyed_spread : (rows : List Row) → all_spread rows ≡ true → keyed rows ≡ keyed_by_character rows
keyed_spread [] spread = refl
keyed_spread (row ∷ rows) spread =
    let parts = and_parts (is_spread row.0) _ spread in
    ap (λ key. (key, row.1) ∷ keyed rows) (key_spread row.0 parts.0)
    ∙ ap (λ rest. (key_by_character row.0, row.1) ∷ rest) (keyed_spread rows parts.1)

names_spread : (l : Language) → all_spread (names l) ≡ true
unfolding names chars is_spread
names_spread En = refl
names_spread De = refl
names_spread Fr = refl
names_spread Es = refl
names_spread It = refl
names_spread Nl = refl

abbrev is_tested : Language → List Row → Bool
is_tested l rows = are_plain l rows && all_agree rows

names_tested : (l : Language) → is_tested l (keyed_by_character (names l)) ≡ true
unfolding caseless names chars key_by_character no_digits no_link has_end is_plain
names_tested En = refl
names_tested De = refl
names_tested Fr = refl
names_tested Es = refl
names_tested It = refl
names_tested Nl = refl

tested : (l : Language) → is_tested l (keyed (names l)) ≡ true
tested l = ap (is_tested l) (keyed_spread (names l) (names_spread l)) ∙ names_tested l

pub names_plain : (l : Language) → are_plain l (keyed (names l)) ≡ true
names_plain l = (and_parts (are_plain l (keyed (names l))) _ (tested l)).0

pub names_agree : (l : Language) → all_agree (keyed (names l)) ≡ true
names_agree l = (and_parts (are_plain l (keyed (names l))) _ (tested l)).1
