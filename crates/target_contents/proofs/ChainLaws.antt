-- What is true of all elements is true of a chain.
use Rattle.std.proofs.Common.{ℕ, zero, suc, Bool, true, false, List, [], ◌∷◌, sym, Option, Some, None}
use Rattle.std.specs.List.{All, Contains, filter}
use Rattle.std.specs.Option.{IfSome, option_map_or}
use Rattle.std.specs.Prelude.{option_and_then, if◌then◌else◌}
use Rattle.std.proofs.lemmas.List.Elements.{All-nil, All-cons, All-filter, All-head}
use Rattle.ix_base.specs.Asks.{asks, if_such, only}
use Rattle.ix_base.specs.Chain.{chain, chain_of, continuation, continued_at, next}
use Rattle.ix_base.specs.Ids.{holds_id}
use Rattle.ix_base.specs.LocatedElements.{Located, is_continuation}
use Rattle.continuations.specs.Model.{StartsAlone}
use Rattle.target_contents.specs.LinkedSets.{AreApart}
use Rattle.target_contents.proofs.AmongLaws.{&&-right}

module _ (P : Located → Type 0) where
  if-only : (xs : List Located) → All P xs → IfSome (only xs) P
  if-only [] h = tt
  if-only (x ∷ []) h = All-head P x [] h
  if-only (x ∷ y ∷ xs) h = tt

  if-by : (b : Bool) (x : Located) → P x → IfSome (if b then Some x else None) P
  if-by true x h = h
  if-by false x h = tt

  if-such : (p : Located → Bool) (o : Option Located) → IfSome o P → IfSome (if_such p o) P
  if-such p None h = tt
  if-such p (Some x) h = if-by (p x) x h

  if-next : (es : List Located) → All P es → (id : Option (List ℕ)) → IfSome (option_and_then (continuation (asks es)) id) P
  if-next es h None = tt
  if-next es h (Some id) = if-such is_continuation (only (filter (holds_id id) es)) (if-only (filter (holds_id id) es) (All-filter (holds_id id) P es h))

  all-behind : (o : Option Located) (f : Located → List Located) → IfSome o P → ((x : Located) → P x → All P (f x)) → All P (option_map_or f o [])
  all-behind None f h g = All-nil P
  all-behind (Some x) f h g = g x h

  all-of : (es : List Located) → All P es → (n : ℕ) (e : Located) → P e → All P (chain_of (asks es) n e)
  all-of es h zero e p = All-nil P
  all-of es h (suc n) e p =
      All-cons P e (option_map_or (chain_of (asks es) n) (next (asks es) e) []) p
      (all-behind (next (asks es) e) (chain_of (asks es) n) (if-next es h (continued_at e)) (λ x q. all-of es h n x q))

  pub all-chain : (es : List Located) → All P es → (e : Located) → P e → All P (chain (asks es) e)
  all-chain es h e p = all-of es h (suc ((asks es).count is_continuation)) e p

-- where no two elements stand at one place, none with which a chain begins stands at the place of another
pub starts-alone : (es : List Located) → AreApart es → (e : Located) → Contains es e → StartsAlone es e
starts-alone es apart e among x h at = sym (apart e x among h (&&-right _ _ at))
