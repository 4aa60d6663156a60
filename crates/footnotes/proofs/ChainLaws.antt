-- The elements of chains are among those from which they were made.
use Rattle.std.proofs.Common.{◌≡◌, ◌<◌, ℕ, zero, suc, Bool, true, false, cond, List, [], ◌∷◌, refl, sym, subst, Option, Some, None, option_map, option_and_then}
use Rattle.std.proofs.lemmas.List.Elements.{All-cons, All-contains, All-nil, All-weaker}
use Rattle.std.specs.List.{All, Contains}
use Rattle.std.specs.Option.{option_map_or}
use Rattle.std.specs.Prelude.{IfSome}
use Rattle.ix_base.specs.Asks.{asks}
use Rattle.ix_base.specs.Chain.{chain, chain_of, continuation, continued_at, next}
use Rattle.ix_base.specs.Ids.{one_such}
use Rattle.ix_base.specs.LocatedElements.{Located, is_continuation}
use Rattle.ix_base.proofs.OnceLemmas.{Contains-first, Contains-later}
use Rattle.continuations.specs.Model.{AreChainsOf}
use Rattle.continuations.specs.ChainStarts.{first_start, starts_at}
use Rattle.footnotes.specs.Model.{AreOnPages}
use Rattle.footnotes.proofs.NoteLaws.{named-is}

next-among : (es : List Located) (o : Option (List ℕ)) → IfSome (option_and_then (continuation (asks es)) o) (Contains es)
next-among es None = tt
next-among es (Some id) = found (one_such is_continuation (asks es) id) refl where
  found : (o : Option Located) → one_such is_continuation (asks es) id ≡ o → IfSome o (Contains es)
  found None e = tt
  found (Some x) e = (named-is es is_continuation id x e).0.there

chain-among : (es : List Located) (n : ℕ) (e : Located) → Contains es e → All (Contains es) (chain_of (asks es) n e)
chain-among es zero e h = All-nil (Contains es)
chain-among es (suc n) e h =
    All-cons (Contains es) e (option_map_or (chain_of (asks es) n) (next (asks es) e) [])
    h (rest (next (asks es) e) (next-among es (continued_at e)) (λ x k. chain-among es n x k)) where
      rest : (o : Option Located) → IfSome o (Contains es) → ((x : Located) → Contains es x → All (Contains es) (chain_of (asks es) n x))
          → All (Contains es) (option_map_or (chain_of (asks es) n) o [])
      rest None k f = All-nil (Contains es)
      rest (Some x) k f = f x k

start-among : (page offset : ℕ) (es all : List Located) → ((x : Located) → Contains es x → Contains all x) → IfSome (first_start page offset es) (Contains all)
start-among page offset [] all h = tt
start-among page offset (x ∷ es) all h = by_cases (starts_at page offset x) (h x (Contains-first x es)) (start-among page offset es all (λ y k. h y (Contains-later x es y k))) where
  by_cases : (b : Bool) → Contains all x → IfSome (first_start page offset es) (Contains all) → IfSome (cond b (Some x) (first_start page offset es)) (Contains all)
  by_cases true k f = k
  by_cases false k f = f

pub chains-on : (chains : List ((ℕ × ℕ) × List Located)) (es : List Located) (pages : ℕ) → AreChainsOf chains es → All (λ e. e.page < pages) es → AreOnPages chains pages
chains-on chains es pages made on page offset =
    subst (λ o. IfSome o (All (λ e. e.page < pages))) (sym (made page offset))
    (started (first_start page offset es) (start-among page offset es es (λ x k. k))) where
      started : (o : Option Located) → IfSome o (Contains es) → IfSome (option_map (chain (asks es)) o) (All (λ e. e.page < pages))
      started None k = tt
      started (Some x) k = All-weaker (Contains es) (λ e. e.page < pages) (λ y h. All-contains (λ e. e.page < pages) es y on h) (chain (asks es) x) (chain-among es (suc ((asks es).count is_continuation)) x k)
