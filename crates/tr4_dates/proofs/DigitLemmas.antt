-- The number that a few digits say.
use Rattle.std.proofs.Common.{◌≡◌, ℕ, ◌<◌, ◌+◌, ◌-◌, ◌*◌, true, List, [], ◌∷◌, length, get_or, suc, zero, arith}
use Rattle.std.proofs.lemmas.Bool.{and_parts}
use Rattle.tr4_dates.specs.Runs.{class_of, digits, all_in, number, number_from}

pub digit_at : (text : List ℕ) (i : ℕ) → all_in digits text ≡ true → i < length text
    → digits (class_of (get_or text i 0)) ≡ true
unfolding all_in
digit_at [] i all within = absurd (omega arith)
digit_at (b ∷ bs) zero all within = (and_parts (digits (class_of b)) _ all).0
digit_at (b ∷ bs) (suc i) all within = digit_at bs i (and_parts (digits (class_of b)) _ all).1 (omega arith)

pub number_one : (text : List ℕ) → length text ≡ 1 → number text ≡ get_or text 0 0 - 48
unfolding number_from
number_one (a ∷ []) size = omega arith
number_one [] size = absurd (omega arith)
number_one (a ∷ b ∷ bs) size = absurd (omega arith)

pub number_two : (text : List ℕ) → length text ≡ 2 → number text ≡ (get_or text 0 0 - 48) * 10 + (get_or text 1 0 - 48)
unfolding number_from
number_two (a ∷ b ∷ []) size = omega arith
number_two [] size = absurd (omega arith)
number_two (a ∷ []) size = absurd (omega arith)
number_two (a ∷ b ∷ c ∷ cs) size = absurd (omega arith)

pub number_four : (text : List ℕ) → length text ≡ 4
    → number text ≡ (get_or text 0 0 - 48) * 1000 + (get_or text 1 0 - 48) * 100 + (get_or text 2 0 - 48) * 10 + (get_or text 3 0 - 48)
unfolding number_from
number_four (a ∷ b ∷ c ∷ d ∷ []) size = omega arith
number_four [] size = absurd (omega arith)
number_four (a ∷ []) size = absurd (omega arith)
number_four (a ∷ b ∷ []) size = absurd (omega arith)
number_four (a ∷ b ∷ c ∷ []) size = absurd (omega arith)
number_four (a ∷ b ∷ c ∷ d ∷ e ∷ es) size = absurd (omega arith)

pub ruleset digit_sums = (digit_at, number_one, number_two, number_four)
