-- Tuples with many owners above.
use Rattle.std.proofs.Common.{◌≡◌, ◌∙◌, ◌+◌, ◌-◌, ◌<◌, option_map, ℕ, zero, suc, Bool, false, [], ◌∷◌, length, refl, sym, ap, Option, Some, None, arith}
use Rattle.std.proofs.lemmas.Bool.{ne_eqb}
use Rattle.std.proofs.lemmas.Bool.Decides.{nat_tests}
use Rattle.std.specs.Prelude.{◌==◌}
use Rattle.std.specs.Option.{option_map_or}
use Rattle.ix_base.specs.Asks.{Asks}
use Rattle.ix_base.specs.LocatedElements.{Located}
use Rattle.ix_base.specs.Membership.{owner, owners}
use Rattle.tuples.specs.OwnedFacts.{owner_seen}
use Rattle.tuples.specs.Owners.{are_above}
use Rattle.tuples.specs.declared.fact.Owner.{Owner}

same_suc : (m n : ℕ) → (suc m == suc n) ≡ (m == n)
same_suc m n = grind (arith, nat_tests)

not_zero : (n : ℕ) → (0 == suc n) ≡ false
not_zero n = ne_eqb 0 (suc n) (λ e. omega arith)

above-by : (a : Asks Located) (n : ℕ) → ((e : Located) → (length (owners a n e) == n) ≡ are_above a n (owner a e)) → (o : Option Located)
    → (length (option_map_or (λ p. p ∷ owners a n p) o []) == suc n) ≡ are_above a (suc n) o
above-by a n h None = not_zero n
above-by a n h (Some p) = same_suc (length (owners a n p)) n ∙ h p

-- there are so many owners
pub above-is : (a : Asks Located) (n : ℕ) (e : Located) → (length (owners a n e) == n) ≡ are_above a n (owner a e)
above-is a zero e = refl
above-is a (suc n) e = above-by a n (above-is a n) (owner a e)

one-up : (a : Asks Located) (n k : ℕ) (o : Located) → n ≡ suc k → are_above a n (Some o) ≡ are_above a k (owner a o)
one-up a n k o e = ap (λ m. are_above a m (Some o)) e

pub goes_up : (a : Asks Located) (m i : ℕ) (o p : Option Owner) (q : Owner) (r : Bool) → o ≡ Some q → i < m
    → option_map owner_seen p ≡ owner a (owner_seen q)
    → are_above a (m - i) (option_map owner_seen o) ≡ r
    → are_above a (m - (i + 1)) (option_map owner_seen p) ≡ r
goes_up a m i o p q r e l s h =
    ap (are_above a (m - (i + 1))) s
    ∙ sym (one-up a (m - i) (m - (i + 1)) (owner_seen q) (omega arith))
    ∙ ap (λ t. are_above a (m - i) (option_map owner_seen t)) (sym e) ∙ h
