-- What a word of digits is read as.
use Rattle.std.proofs.Common.{◌≡◌, ◌∙◌, ap, refl, inl, inr, ℕ, ◌<◌, ◌≤◌, ◌^◌, ◌&&◌, ◌==◌, not, Bool, true, false, nat_le, cond, List, [], ◌∷◌, length, Some, None, Ok, Err, arith, rules}
use Rattle.std.specs.List.{list_all}
use Rattle.std.specs.Str.Parse.{ParsesUnsigned}
use Rattle.std.proofs.lemmas.Bool.{cases_lt, le-leb, lt-leb}
use Rattle.std.proofs.lemmas.Str.Parse.{IsNumeralModel, numerals_by_weight, parse_digits}
use Rattle.ix_base.specs.declared.limits.TheConstants.{MOST_FACTS}
use Rattle.ix_base.specs.Decimals.{number_in}
use Rattle.ix_base.specs.Forms.{is_digit}
use Rattle.command_words.specs.Numbers.{is_count, sample_number}

own : IsNumeralModel (λ ds. list_all is_digit ds ≡ true) number_in
own = numerals_by_weight _ (search rules) number_in (search rules)

behind : (a b : Bool) → (a && b) ≡ true → b ≡ true
behind true b e = e
behind false b e = cc

all_digits : (word : List ℕ) → is_count word ≡ true → list_all is_digit word ≡ true
all_digits [] e = refl
all_digits (c ∷ cs) e = behind (not (c == 48)) (list_all is_digit (c ∷ cs)) e

some_digit : (word : List ℕ) → is_count word ≡ true → 0 < length word
some_digit [] e = cc
some_digit (c ∷ cs) e = omega arith

-- it is the number that its digits write
is_read : (word : List ℕ) (n : ℕ) → is_count word ≡ true → ParsesUnsigned {E = Unit {0}} 32 10 word (Ok n) → n ≡ number_in word
is_read word n e h = (parse_digits own {E = Unit {0}} 32 word (Ok n) h (all_digits word e)).1

-- or that number is too large
is_over : (word : List ℕ) → is_count word ≡ true → ParsesUnsigned {E = Unit {0}} 32 10 word (Err tt) → MOST_FACTS < number_in word
is_over word e h =
    let other = parse_digits own {E = Unit {0}} 32 word (Err tt) h (all_digits word e) in
    elim (cases_lt (number_in word) (2 ^ 32)) [ inl less ↦ absurd (other (some_digit word e, less)) | inr more ↦ omega arith ]

pick : (a b c : Bool) (n : ℕ) → a ≡ true → b ≡ true → c ≡ true → Some n ≡ cond (a && b && c) (Some n) None
pick a b c n d e f = rw (d, e, f) refl

-- a number of a sample
pub found : (word : List ℕ) (n : ℕ) → is_count word ≡ true → ParsesUnsigned {E = Unit {0}} 32 10 word (Ok n) → 1 ≤ n → n ≤ MOST_FACTS
    → Some n ≡ sample_number word
found word n e h some most =
    let is = is_read word n e h in
    ap Some is ∙ pick (is_count word) (nat_le 1 (number_in word)) (nat_le (number_in word) MOST_FACTS) (number_in word) e
    (le-leb 1 (number_in word) (omega arith)) (le-leb (number_in word) MOST_FACTS (omega arith))

none_behind : (a b c : Bool) (n : ℕ) → c ≡ false → None ≡ cond (a && b && c) (Some n) None
none_behind true true c n e = rw e refl
none_behind true false c n e = refl
none_behind false b c n e = refl

none_within : (a b c : Bool) (n : ℕ) → b ≡ false → None ≡ cond (a && b && c) (Some n) None
none_within true b c n e = rw e refl
none_within false b c n e = refl

over : (word : List ℕ) → MOST_FACTS < number_in word → None ≡ sample_number word
over word more = none_behind (is_count word) (nat_le 1 (number_in word)) (nat_le (number_in word) MOST_FACTS) (number_in word)
    (lt-leb (number_in word) MOST_FACTS more)

pub too_large : (word : List ℕ) (n : ℕ) → is_count word ≡ true → ParsesUnsigned {E = Unit {0}} 32 10 word (Ok n) → MOST_FACTS < n
    → None ≡ sample_number word
too_large word n e h more = let is = is_read word n e h in over word (omega arith)

pub too_long : (word : List ℕ) → is_count word ≡ true → ParsesUnsigned {E = Unit {0}} 32 10 word (Err tt) → None ≡ sample_number word
too_long word e h = over word (is_over word e h)

pub too_small : (word : List ℕ) (n : ℕ) → is_count word ≡ true → ParsesUnsigned {E = Unit {0}} 32 10 word (Ok n) → n < 1
    → None ≡ sample_number word
too_small word n e h none =
    let is = is_read word n e h in
    none_within (is_count word) (nat_le 1 (number_in word)) (nat_le (number_in word) MOST_FACTS) (number_in word)
    (lt-leb 1 (number_in word) (omega arith))

pub no_number : (word : List ℕ) → is_count word ≡ false → None ≡ sample_number word
no_number word e = rw e refl
