-- The one element with an id, and the elements of a chain.
use Rattle.std.proofs.Common.{◌≡◌, ◌∙◌, ap, refl, subst, sym, ℕ, zero, suc, Bool, true, false, cond, List, [], ◌∷◌, Option, Some, None, option_and_then, ⊎_elim}
use Rattle.std.specs.List.{Contains, filter}
use Rattle.std.specs.Option.{option_map_or}
use Rattle.std.proofs.lemmas.Slice.Eq.{bytes_eq-Decides}
use Rattle.ix_base.specs.Asks.{asks, if_such, only}
use Rattle.ix_base.specs.Chain.{chain_of, continuation, continued_at, next}
use Rattle.ix_base.specs.Ids.{holds_id, id_of, one_such, sole}
use Rattle.ix_base.specs.LocatedElements.{Located, is_continuation, is_text}
use Rattle.ix_base.proofs.OnceLemmas.{Contains-cases, Contains-first, Contains-from_filter, Contains-nil}

only-is : (xs : List Located) (x : Located) → only xs ≡ Some x → Contains xs x
only-is [] x h = absurd (cc)
only-is (y ∷ []) x h = let same : y ≡ x = cc in subst (Contains (y ∷ [])) same (Contains-first y [])
only-is (y ∷ z ∷ zs) x h = absurd (cc)

if-such : (p : Located → Bool) (o : Option Located) (x : Located) → if_such p o ≡ Some x → (o ≡ Some x) × (p x ≡ true)
if-such p None x h = absurd (cc)
if-such p (Some y) x h = by (p y) refl h
  where
    by : (b : Bool) → p y ≡ b → cond b (Some y) None ≡ Some x → (Some y ≡ Some x) × (p x ≡ true)
    by true e g = let same : y ≡ x = cc in (g, ap p (sym same) ∙ e)
    by false e g = absurd (cc)

text-is : (id : List ℕ) (o : Option (List ℕ)) → is_text id o ≡ true → o ≡ Some id
text-is id None h = absurd (cc)
text-is id (Some t) h = ap Some (sym ((bytes_eq-Decides id t).0 h))

-- the one such element with an id
pub record IsSuch (es : List Located) (p : Located → Bool) (id : List ℕ) (x : Located) : Type 0 where
  pub there : Contains es x
  pub such : p x ≡ true
  pub called : id_of x ≡ Some id
  pub one : sole (asks es) id ≡ Some x

pub such-is : (es : List Located) (p : Located → Bool) (id : List ℕ) (x : Located) → one_such p (asks es) id ≡ Some x → IsSuch es p id x
such-is es p id x h =
    let s = if-such p (sole (asks es) id) x h in
    let a = Contains-from_filter (holds_id id) es x (only-is (filter (holds_id id) es) x s.0) in
    record { there = a.0; such = s.1; called = text-is id (id_of x) a.1; one = s.0 }

-- it is the one of another sort, where it is of that sort
pub such-too : (es : List Located) (p q : Located → Bool) (id : List ℕ) (x : Located) → IsSuch es p id x → q x ≡ true → one_such q (asks es) id ≡ Some x
such-too es p q id x s h = ap (if_such q) s.one ∙ ap (λ b. cond b (Some x) None) h

-- the elements of a chain are among those of which it is asked
pub chain-from : (es : List Located) (n : ℕ) (e x : Located) → Contains es e → Contains (chain_of (asks es) n e) x → Contains es x
chain-from es zero e x h k = absurd (Contains-nil x k)
chain-from es (suc n) e x h k = ⊎_elim
    (λ (q : e ≡ x). subst (Contains es) q h)
    (λ later. rest (next (asks es) e) (λ y f. on-there (continued_at e) y f) (λ y f. chain-from es n y x f) later)
    (Contains-cases e (option_map_or (chain_of (asks es) n) (next (asks es) e) []) x k)
  where
    on-there : (o : Option (List ℕ)) (y : Located) → option_and_then (continuation (asks es)) o ≡ Some y → Contains es y
    on-there None y f = absurd (cc)
    on-there (Some id) y f = (such-is es is_continuation id y f).there

    rest : (o : Option Located) → ((y : Located) → o ≡ Some y → Contains es y) → ((y : Located) → Contains es y → Contains (chain_of (asks es) n y) x → Contains es x)
        → Contains (option_map_or (chain_of (asks es) n) o []) x → Contains es x
    rest None f g c = absurd (Contains-nil x c)
    rest (Some y) f g c = g y (f y refl) c
