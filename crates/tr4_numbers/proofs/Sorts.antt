-- What a character is, by its tests.
use Rattle.std.proofs.Common.{◌≡◌, ◌≢◌, ℕ, ◌==◌, ◌||◌, not, ◌⊎◌, if◌then◌else◌, Bool, true, false, IsTrue, refl, subst, inl, inr}
use Rattle.std.proofs.lemmas.Bool.{cases_eq, ne_eqb, eqb-true}
use Rattle.tr4_numbers.specs.declared.NumberFormat.{NumberFormat}
use Rattle.tr4_numbers.specs.declared.NumberFormat.TheVariants as N
use Rattle.tr4_numbers.specs.declared.reader.Sort.{Sort}
use Rattle.tr4_numbers.specs.declared.reader.Sort.TheVariants as S
use Rattle.tr4_numbers.specs.Transformation.{is_digit, is_space, is_line, is_group_sign, is_decimal_sign, may_part}
use Rattle.tr4_numbers.specs.Readers.{sort_of}

-- what the sort says of the tests: a digit, a space, a line's end, a decimal sign, a group sign
abbrev pub Means : Bool → Bool → Bool → Bool → Bool → Sort → Type 0
Means a b l p g S.Digit = IsTrue a
Means a b l p g S.Space = IsTrue (not a) × IsTrue b
Means a b l p g S.Line = IsTrue (not a) × IsTrue l
Means a b l p g S.DecimalSign = IsTrue (not a) × IsTrue p
Means a b l p g S.GroupSign = IsTrue (not a) × IsTrue g
Means a b l p g S.Other = IsTrue (not a) × IsTrue (not (b || g))

-- the first test that passes
abbrev pub sort_by : Bool → Bool → Bool → Bool → Bool → Sort
sort_by a b l p g =
    if a then S.Digit else if b then S.Space else if l then S.Line else if p then S.DecimalSign else if g then S.GroupSign else S.Other

means_by : (a b l p g : Bool) → Means a b l p g (sort_by a b l p g)
means_by true b l p g = refl
means_by false true l p g = (refl, refl)
means_by false false true p g = (refl, refl)
means_by false false false true g = (refl, refl)
means_by false false false false true = (refl, refl)
means_by false false false false false = (refl, refl)

abbrev pub Known : NumberFormat → ℕ → Sort → Type 0
Known format c s = Means (is_digit c) (is_space c) (is_line c) (is_decimal_sign format c) (is_group_sign format c) s

pub known : (format : NumberFormat) (c : ℕ) → Known format c (sort_of format c)
known format c = means_by (is_digit c) (is_space c) (is_line c) (is_decimal_sign format c) (is_group_sign format c)

pub sort-digit : (format : NumberFormat) (c : ℕ) → IsTrue (is_digit c) → sort_of format c ≡ S.Digit
sort-digit format c d = rw d refl

-- a test has one answer
pub clashing : (b : Bool) → IsTrue b → IsTrue (not b) → ⊥
clashing true h k = let no : false ≡ true → ⊥ = λ w. cc in no k
clashing false h k = let no : false ≡ true → ⊥ = λ w. cc in no h

pub sort-other : (format : NumberFormat) (c : ℕ) → IsTrue (not (is_digit c)) → sort_of format c ≢ S.Digit
sort-other format c n e =
    clashing (is_digit c) (let k : Known format c S.Digit = subst (λ s. Known format c s) e (known format c) in k) n

space-cases : (c : ℕ) → IsTrue (is_space c) → (c ≡ 0x20) ⊎ ((c ≡ 0xA0) ⊎ ((c ≡ 0x2009) ⊎ (c ≡ 0x202F)))
space-cases c s = elim (cases_eq c 0x20) [
  | inl e ↦ inl e
  | inr a ↦ elim (cases_eq c 0xA0) [
    | inl e ↦ inr (inl e)
    | inr b ↦ elim (cases_eq c 0x2009) [
      | inl e ↦ inr (inr (inl e))
      | inr d ↦ inr (inr (inr (eqb-true c 0x202F (rw (ne_eqb c 0x20 a, ne_eqb c 0xA0 b, ne_eqb c 0x2009 d) at s))))
    ]
  ]
]

line-cases : (c : ℕ) → IsTrue (is_line c) → (c ≡ 9) ⊎ ((c ≡ 10) ⊎ (c ≡ 13))
line-cases c s = elim (cases_eq c 9) [
  | inl e ↦ inl e
  | inr a ↦ elim (cases_eq c 10) [
    | inl e ↦ inr (inl e)
    | inr b ↦ inr (inr (eqb-true c 13 (rw (ne_eqb c 9 a, ne_eqb c 10 b) at s)))
  ]
]

either-cases : (c : ℕ) → IsTrue (c == 44 || c == 46) → (c ≡ 44) ⊎ (c ≡ 46)
either-cases c s = elim (cases_eq c 44) [
  | inl e ↦ inl e
  | inr a ↦ inr (eqb-true c 46 (rw (ne_eqb c 44 a) at s))
]

sort-space : (format : NumberFormat) (c : ℕ) → IsTrue (is_space c) → sort_of format c ≡ S.Space
sort-space format c s = elim (space-cases c s) [
  | inl e ↦ rw e refl
  | inr r ↦ elim r [ inl e ↦ rw e refl | inr q ↦ elim q [ inl e ↦ rw e refl | inr e ↦ rw e refl ] ]
]

sort-line : (format : NumberFormat) (c : ℕ) → IsTrue (is_line c) → sort_of format c ≡ S.Line
sort-line format c s = elim (line-cases c s) [
  | inl e ↦ rw e refl
  | inr r ↦ elim r [ inl e ↦ rw e refl | inr e ↦ rw e refl ]
]

no_sign : IsTrue false → ⊥
no_sign h = let no : false ≡ true → ⊥ = λ w. cc in no h

pub sort-decimal_sign : (format : NumberFormat) (c : ℕ) → IsTrue (is_decimal_sign format c) → sort_of format c ≡ S.DecimalSign
sort-decimal_sign N.Dot c s = rw (eqb-true c 46 s) refl
sort-decimal_sign N.Comma c s = rw (eqb-true c 44 s) refl
sort-decimal_sign N.Unit c s = absurd (no_sign s)

sort-group_sign : (format : NumberFormat) (c : ℕ) → IsTrue (is_group_sign format c) → sort_of format c ≡ S.GroupSign
sort-group_sign N.Dot c s = rw (eqb-true c 44 s) refl
sort-group_sign N.Comma c s = rw (eqb-true c 46 s) refl
sort-group_sign N.Unit c s = elim (either-cases c s) [ inl e ↦ rw e refl | inr e ↦ rw e refl ]

-- a line's end can't stand in a gap
pub line-parts : (format : NumberFormat) (c : ℕ) → IsTrue (is_line c) → IsTrue (not (may_part format c))
line-parts N.Dot c s = elim (line-cases c s) [ inl e ↦ rw e refl | inr r ↦ elim r [ inl e ↦ rw e refl | inr e ↦ rw e refl ] ]
line-parts N.Comma c s = elim (line-cases c s) [ inl e ↦ rw e refl | inr r ↦ elim r [ inl e ↦ rw e refl | inr e ↦ rw e refl ] ]
line-parts N.Unit c s = elim (line-cases c s) [ inl e ↦ rw e refl | inr r ↦ elim r [ inl e ↦ rw e refl | inr e ↦ rw e refl ] ]

-- nor can a decimal sign
pub decimal_sign-parts : (format : NumberFormat) (c : ℕ) → IsTrue (is_decimal_sign format c) → IsTrue (not (may_part format c))
decimal_sign-parts N.Dot c s = rw (eqb-true c 46 s) refl
decimal_sign-parts N.Comma c s = rw (eqb-true c 44 s) refl
decimal_sign-parts N.Unit c s = absurd (no_sign s)

either : (a b : Bool) → IsTrue (a || b) → IsTrue a ⊎ IsTrue b
either true b h = inl refl
either false b h = inr h

pub left : (a b : Bool) → IsTrue a → IsTrue (a || b)
left true b h = refl
left false b h = absurd (no_sign h)

pub right : (a b : Bool) → IsTrue b → IsTrue (a || b)
right true b h = refl
right false b h = h

-- what is dropped is a space or a line's end
pub sort-dropped : (format : NumberFormat) (c : ℕ) → IsTrue (is_space c || is_line c) → (sort_of format c ≡ S.Space) ⊎ (sort_of format c ≡ S.Line)
sort-dropped format c h = elim (either (is_space c) (is_line c) h) [
  | inl s ↦ inl (sort-space format c s)
  | inr l ↦ inr (sort-line format c l)
]

-- what stands in a gap is a space or a group sign
pub sort-gap : (format : NumberFormat) (c : ℕ) → IsTrue (may_part format c) → (sort_of format c ≡ S.Space) ⊎ (sort_of format c ≡ S.GroupSign)
sort-gap format c h = elim (either (is_space c) (is_group_sign format c) h) [
  | inl s ↦ inl (sort-space format c s)
  | inr g ↦ inr (sort-group_sign format c g)
]

-- what is dropped is no digit
pub dropped-other : (c : ℕ) → IsTrue (is_space c || is_line c) → IsTrue (not (is_digit c))
dropped-other c h = elim (either (is_space c) (is_line c) h) [
  | inl s ↦ elim (space-cases c s) [
    | inl e ↦ rw e refl
    | inr r ↦ elim r [ inl e ↦ rw e refl | inr q ↦ elim q [ inl e ↦ rw e refl | inr e ↦ rw e refl ] ]
  ]
  | inr l ↦ elim (line-cases c l) [
    | inl e ↦ rw e refl
    | inr r ↦ elim r [ inl e ↦ rw e refl | inr e ↦ rw e refl ]
  ]
]

word-by : (a b l p g : Bool) → IsTrue (not a) → IsTrue (not (b || g)) →
    (sort_by a b l p g ≡ S.Line) ⊎ ((sort_by a b l p g ≡ S.DecimalSign) ⊎ (sort_by a b l p g ≡ S.Other))
word-by true b l p g n m = absurd (no_sign n)
word-by false true l p g n m = absurd (no_sign m)
word-by false false true p g n m = inl refl
word-by false false false true g n m = inr (inl refl)
word-by false false false false true n m = absurd (no_sign m)
word-by false false false false false n m = inr (inr refl)

-- what can't stand in a gap, and is no digit
pub sort-word : (format : NumberFormat) (c : ℕ) → IsTrue (not (is_digit c)) → IsTrue (not (may_part format c)) →
    (sort_of format c ≡ S.Line) ⊎ ((sort_of format c ≡ S.DecimalSign) ⊎ (sort_of format c ≡ S.Other))
sort-word format c n m = word-by (is_digit c) (is_space c) (is_line c) (is_decimal_sign format c) (is_group_sign format c) n m

by_cases : (b : Bool) → IsTrue b ⊎ IsTrue (not b)
by_cases true = inl refl
by_cases false = inr refl

pub cases_part : (format : NumberFormat) (c : ℕ) → IsTrue (may_part format c) ⊎ IsTrue (not (may_part format c))
cases_part format c = by_cases (may_part format c)
