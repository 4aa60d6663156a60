-- How the code splits written names.
use Rattle.std.proofs.Common.{◌≡◌, ℕ, ◌+◌, ◌<◌, Bool, true, false, List, [], ◌∷◌, length, Option, Some, None, MatchOption, option_map, refl, arith, Bor, ◌⊎◌, inl, inr}
use Rattle.std.specs.List.{list_any, position_or_len, before_first, after_first}
use Rattle.ix_base.specs.Scope.{is_colon}
use Rattle.page_constructs.specs.Names.{name_parts}
use Rattle.page_constructs.proofs.SpanLaws.{either}

position-first : (p : ℕ → Bool) (c : ℕ) (t : List ℕ) → p c ≡ true → position_or_len p (c ∷ t) ≡ 0
position-first p c t y = rw y refl

position-next : (p : ℕ → Bool) (c : ℕ) (t : List ℕ) → p c ≡ false → position_or_len p (c ∷ t) ≡ 1 + position_or_len p t
position-next p c t n = rw n refl

pub any-none : (p : ℕ → Bool) (t : List ℕ) → position_or_len p t ≡ length t → list_any p t ≡ false
any-none p [] h = refl
any-none p (c ∷ t) h = by_first (λ q. any-none p t q) (either (p c)) where
  by_first : (position_or_len p t ≡ length t → list_any p t ≡ false) → (p c ≡ true) ⊎ (p c ≡ false) → list_any p (c ∷ t) ≡ false
  by_first ih (inl y) = absurd (let e = position-first p c t y in omega arith)
  by_first ih (inr n) = rw n (ih (let e = position-next p c t n in omega arith))

pub any-some : (p : ℕ → Bool) (t : List ℕ) → position_or_len p t < length t → list_any p t ≡ true
any-some p [] h = absurd (omega arith)
any-some p (c ∷ t) h = by_first (λ q. any-some p t q) (either (p c)) where
  by_first : (position_or_len p t < length t → list_any p t ≡ true) → (p c ≡ true) ⊎ (p c ≡ false) → list_any p (c ∷ t) ≡ true
  by_first ih (inl y) = rw y refl
  by_first ih (inr n) = rw n (ih (let e = position-next p c t n in omega arith))

abbrev Parts : Type 0
Parts = Bor (List ℕ) × Bor (List ℕ)

pub parts-is : (name : List ℕ) (r : Option Parts) → MatchOption r (position_or_len is_colon name ≡ length name) (λ x. (position_or_len is_colon name < length name) × (x.0.now ≡ before_first is_colon name) × (x.1.now ≡ after_first is_colon name))
    → option_map (λ p. (p.0.now, p.1.now)) r ≡ name_parts name
parts-is name None h = rw (any-none is_colon name h) refl
parts-is name (Some x) h = rw (any-some is_colon name h.0) (let a = h.1 in let b = h.2 in cc)
