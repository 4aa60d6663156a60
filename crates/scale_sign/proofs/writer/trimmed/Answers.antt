use Rattle.std.proofs.Common.{◌≡◌, ◌≢◌, ◌+◌, ◌<◌, ◌≤◌, ◌++◌, [], ◌∷◌, length, take, ℕ, ◌-◌, List, get_or, arith, refl}
use Rattle.std.proofs.lemmas.List.{take_more}
use Rattle.std.proofs.lemmas.Grind.{common_steps}
use Rattle.scale_sign.specs.WrittenDigits.{cut}
use Rattle.scale_sign.proofs.Values.{cut_zero, cut_other}
use Rattle.scale_sign.proofs.writer.trimmed.Goals as goal
use Rattle.scale_sign.proofs.writer.trimmed.Goals.{then-loop-end-test+else-bytes-end-eq48, else-loop-end-test}

-- the part below an end, without a zero at that end
one_less : (xs : List ℕ) (e : ℕ) → 0 < e → e ≤ length xs → take e xs ≡ take (e - 1) xs ++ get_or xs (e - 1) 0 ∷ []
one_less xs e some within =
    let h = take_more xs (e - 1) 0 (omega arith) in
    let s : e - 1 + 1 ≡ e = omega arith in
    rw s at h

cut_less : (xs : List ℕ) (e : ℕ) → 0 < e → e ≤ length xs → get_or xs (e - 1) 0 ≡ 48 → cut (take (e - 1) xs) ≡ cut (take e xs)
cut_less xs e some within is = rw (one_less xs e some within, is, cut_zero (take (e - 1) xs)) refl

cut_stays : (xs : List ℕ) (e : ℕ) → 0 < e → e ≤ length xs → get_or xs (e - 1) 0 ≢ 48 → cut (take e xs) ≡ take e xs
cut_stays xs e some within is = rw (one_less xs e some within, cut_other (take (e - 1) xs) (get_or xs (e - 1) 0) is) refl

pub loop-end-preserved : goal.loop-end-preserved
loop-end-preserved c = (omega arith, grind (arith, common_steps, cut_less))

pub returns-clause-value : goal.returns-clause-value
returns-clause-value c = elim c.loop-end-test.branch [
  | then-loop-end-test+else-bytes-end-eq48 w ↦ grind (arith, common_steps, cut_stays)
  | else-loop-end-test w ↦ grind (arith, common_steps)
]
