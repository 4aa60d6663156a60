-- Texts cut at their first colon.
use Rattle.std.proofs.Common.{◌≡◌, ℕ, suc, ◌+◌, ◌<◌, Bool, true, false, not, cond, ◌||◌, List, [], ◌∷◌, length, Option, Some, None, Bor, arith, refl}
use Rattle.std.specs.List.{list_any, position_or_len}
use Rattle.std.specs.Option.{MatchOption}
use Rattle.std.proofs.lemmas.Str.Pattern.{IsSplitOnceResult, split_once_first}
use Rattle.ix_base.specs.Scope.{is_colon, has_prefix, prefix_of, local_of}

any_step : (b : Bool) (n m : ℕ) (any : Bool) → (n < m → any ≡ true) → cond (not b) (1 + n) 0 < suc m → (b || any) ≡ true
any_step true n m any rest h = refl
any_step false n m any rest h = rest (omega arith)

-- a first place before the end is one that passes
pub any-position : {X : Type 0} (p : X → Bool) (xs : List X) → position_or_len p xs < length xs → list_any p xs ≡ true
any-position p [] h = absurd (omega arith)
any-position p (x ∷ xs) h = any_step (p x) (position_or_len p xs) (length xs) (list_any p xs) (any-position p xs) h

none_step : (b : Bool) (n m : ℕ) (any : Bool) → (n ≡ m → any ≡ false) → cond (not b) (1 + n) 0 ≡ suc m → (b || any) ≡ false
none_step true n m any rest h = absurd (omega arith)
none_step false n m any rest h = rest (omega arith)

-- none passes where the search comes to the end
pub none-position : {X : Type 0} (p : X → Bool) (xs : List X) → position_or_len p xs ≡ length xs → list_any p xs ≡ false
none-position p [] h = refl
none-position p (x ∷ xs) h = none_step (p x) (position_or_len p xs) (length xs) (list_any p xs) (none-position p xs) h

pub cut_at_colon : (text : List ℕ) (r : Option (Bor (List ℕ) × Bor (List ℕ))) → IsSplitOnceResult 58 text r
    → MatchOption r (has_prefix text ≡ false) (λ p. (has_prefix text ≡ true) × (p.0.now ≡ prefix_of text) × (p.1.now ≡ local_of text))
cut_at_colon text None h = none-position is_colon text (split_once_first 58 text None h (omega arith))
cut_at_colon text (Some p) h =
    let cut = split_once_first 58 text (Some p) h (omega arith) in
    let colon : has_prefix text ≡ true = any-position is_colon text cut.0 in
    (colon, rw colon cut.1, rw colon cut.2)
