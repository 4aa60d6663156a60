-- The chain that is kept for an element.
use Rattle.std.proofs.Common.{◌≡◌, ◌∙◌, ap, true, Some, List, [], ◌∷◌, option_map, ⊎_elim, inl, inr}
use Rattle.std.specs.Prelude.{ℕ, Contains}
use Rattle.ix_base.proofs.OnceLemmas.{Contains-nil, Contains-cases, Contains-same, Contains-later}
use Rattle.ix_base.specs.Asks.{asks}
use Rattle.ix_base.specs.Chain.{chain}
use Rattle.ix_base.specs.LocatedElements.{Located, is_start, offset_of}
use Rattle.continuations.specs.Model.{chain_at, AreChainsOf, StartsAlone}
use Rattle.continuations.proofs.StartLaws.{IsAmong, first-is}

among : (es : List Located) (e : Located) → Contains es e → IsAmong es e
among [] e h = Contains-nil e h
among (x ∷ es) e h = ⊎_elim inl (λ later. inr (among es e later)) (Contains-cases x es e h)

contained : (es : List Located) (e : Located) → IsAmong es e → Contains es e
contained [] e h = absurd h
contained (x ∷ es) e h = ⊎_elim (Contains-same x es e) (λ later. Contains-later x es e (contained es e later)) h

pub chain_at-start : (cs : List ((ℕ × ℕ) × List Located)) (es : List Located) (e : Located) → AreChainsOf cs es → Contains es e
    → is_start e ≡ true → StartsAlone es e → chain_at cs e.page (offset_of e) ≡ Some (chain (asks es) e)
chain_at-start cs es e made there starts alone =
    made e.page (offset_of e)
    ∙ ap (option_map (chain (asks es))) (first-is es e (among es e there) starts (λ x h k. alone x (contained es x h) k))
