-- Where walks reach all continuations, and where no chain has an element inside another one of it.
use Rattle.std.proofs.Common.{◌≡◌, ◌∙◌, ◌++◌, ◌+◌, ◌<◌, ◌≤◌, ℕ, Bool, true, false, cond, List, [], ◌∷◌, length, refl, ap, sym, subst, arith, Option, Some}
use Rattle.std.proofs.lemmas.Bool.{true≢false, false_from_ne_true, not-true, and_parts, and_from, eq-eqb}
use Rattle.std.proofs.lemmas.Option.{slice_get_within}
use Rattle.std.specs.Prelude.{◌||◌, ◌==◌, not}
use Rattle.std.specs.List.{filter, flat_map, list_any, slice_get}
use Rattle.ix_base.specs.Asks.{asks, are_some}
use Rattle.ix_base.specs.Chain.{chain, chain_of}
use Rattle.ix_base.specs.LinkRules.{inner_along, is_at, is_inside_chain, is_reached_from, is_unreached, stands_inside}
use Rattle.ix_base.specs.LocatedElements.{Located, is_continuation, is_start, offset_of}
use Rattle.continuations.specs.Nesting.{is_nested}
use Rattle.continuations.specs.ChainReach.{inner_by, most_of}
use Rattle.continuations.specs.Walks.{AreReached, Reaches, is_marked}
use Rattle.continuations.proofs.Numbering.{IsIn, filter-in, got-behind, got-in, got-left, got-right}
use Rattle.continuations.proofs.Inner.{any-in, in-any}
use Rattle.continuations.proofs.Reaching.{flat-any}
use Rattle.continuations.proofs.SeenLaws.{inner-is, reached-is}
use Rattle.continuations.proofs.Standing.{AreOf, chain-long, start-at}

at-self : (e : Located) → is_at e.page (offset_of e) e ≡ true
at-self e = and_from (e.page == e.page) (offset_of e == offset_of e) (eq-eqb e.page e.page refl) (eq-eqb (offset_of e) (offset_of e) refl)

-- a continuation whose number is marked is in a chain
reached : (es xs : List Located) (count : ℕ) (ns : List (Option ℕ)) (marks : List Bool) → AreOf es xs count ns → AreReached ns count (length ns) marks
    → (e : Located) (k : ℕ) → slice_get xs k ≡ Some e → is_marked marks k ≡ true → are_some (asks es) (is_reached_from (asks es) e) ≡ true
reached es xs count ns marks o r e k at m =
    let by : (h : ℕ) × (count ≤ h) × (h < length ns) × Reaches ns h k = (r k).0 m in
    let s : (s : Located) × (slice_get xs by.0 ≡ Some s) × IsIn s (filter is_start es) = start-at es xs count ns o by.0 by.1 by.2 in
    sym (reached-is es e)
    ∙ flat-any (is_at e.page (offset_of e)) (chain_of (asks es) (most_of (asks es))) (filter is_start es) s.0 s.2
    (chain-long es xs count ns o (is_at e.page (offset_of e)) by.0 k s.0 e by.3 s.1 at (at-self e))

pub none-unreached : (es xs : List Located) (count : ℕ) (ns : List (Option ℕ)) (marks : List Bool) → AreOf es xs count ns → AreReached ns count (length ns) marks
    → ((k : ℕ) → k < count → is_marked marks k ≡ true) → list_any (is_unreached (asks es)) es ≡ false
none-unreached es xs count ns marks o r all = false_from_ne_true (list_any (is_unreached (asks es)) es) (λ t.
    let e : (e : Located) × IsIn e es × (is_unreached (asks es) e ≡ true) = any-in (is_unreached (asks es)) es t in
    let both = and_parts (is_continuation e.0) (not (are_some (asks es) (is_reached_from (asks es) e.0))) e.2 in
    let k : (k : ℕ) × (slice_get (filter is_continuation es) k ≡ Some e.0) = got-in (filter is_continuation es) e.0 (filter-in is_continuation es e.0 e.1 both.0) in
    let at : slice_get xs k.0 ≡ Some e.0 = ap (λ ys. slice_get ys k.0) o.spots ∙ got-left (filter is_continuation es) (filter is_start es) k.0 e.0 k.1 in
    let low : k.0 < count = subst (λ n. k.0 < n) (sym o.counted) (slice_get_within (filter is_continuation es) k.0 e.0 k.1) in
    true≢false (sym (reached es xs count ns marks o r e.0 k.0 at (all k.0 low)) ∙ not-true (are_some (asks es) (is_reached_from (asks es) e.0)) both.1))

none-pass : {X : Type 0} (p : X → Bool) (xs : List X) → list_any p xs ≡ false → filter p xs ≡ []
none-pass p [] h = refl
none-pass p (x ∷ xs) h = by (p x) (none-pass p xs) h where
  by : (b : Bool) → (list_any p xs ≡ false → filter p xs ≡ []) → (b || list_any p xs) ≡ false → cond b (x ∷ filter p xs) (filter p xs) ≡ []
  by true later h = absurd (true≢false h)
  by false later h = later h

none-inner : (f : Located → List Located) (ss : List Located) → list_any (λ s. is_nested (f s)) ss ≡ false → flat_map (λ s. inner_along (f s)) ss ≡ []
none-inner f [] h = refl
none-inner f (s ∷ ss) h = by (is_nested (f s)) refl (none-inner f ss) h where
  by : (b : Bool) → is_nested (f s) ≡ b → (list_any (λ s. is_nested (f s)) ss ≡ false → flat_map (λ s. inner_along (f s)) ss ≡ [])
      → (b || list_any (λ s. is_nested (f s)) ss) ≡ false → flat_map (λ s. inner_along (f s)) (s ∷ ss) ≡ []
  by true e later h = absurd (true≢false h)
  by false e later h = ap (λ x. x ++ flat_map (λ s. inner_along (f s)) ss) (none-pass (stands_inside (f s)) (f s) e) ∙ later h

pub none-inside : (es : List Located) → list_any (λ s. is_nested (chain (asks es) s)) (filter is_start es) ≡ false → list_any (is_inside_chain (asks es)) es ≡ false
none-inside es h = false_from_ne_true (list_any (is_inside_chain (asks es)) es) (λ t.
    let e : (e : Located) × IsIn e es × (is_inside_chain (asks es) e ≡ true) = any-in (is_inside_chain (asks es)) es t in
    let none : inner_by (asks es) (most_of (asks es)) es ≡ [] = none-inner (chain (asks es)) (filter is_start es) h in
    true≢false (sym e.2 ∙ sym (inner-is es e.0) ∙ ap (list_any (is_at (e.0).page (offset_of e.0))) none))

-- some of the elements with which chains begin pass, by a number
pub start-passes : (es xs : List Located) (count : ℕ) → xs ≡ filter is_continuation es ++ filter is_start es → count ≡ length (filter is_continuation es)
    → (q : Located → Bool) (k : ℕ) (e : Located) → count ≤ k → slice_get xs k ≡ Some e → q e ≡ true → list_any q (filter is_start es) ≡ true
start-passes es xs count s n q k e low at t =
    in-any q (filter is_start es) e
    (got-behind (filter is_continuation es) (filter is_start es) k e (subst (λ m. m ≤ k) n low) (ap (λ ys. slice_get ys k) (sym s) ∙ at)) t

-- none passes
pub no-start-passes : (es xs : List Located) (count upto : ℕ) → xs ≡ filter is_continuation es ++ filter is_start es → count ≡ length (filter is_continuation es) → length xs ≤ upto
    → (q : Located → Bool) → ((k : ℕ) (e : Located) → count ≤ k → k < upto → slice_get xs k ≡ Some e → q e ≡ false) → list_any q (filter is_start es) ≡ false
no-start-passes es xs count upto s n all q none = false_from_ne_true (list_any q (filter is_start es)) (λ t.
    let e : (e : Located) × IsIn e (filter is_start es) × (q e ≡ true) = any-in q (filter is_start es) t in
    let j : (j : ℕ) × (slice_get (filter is_start es) j ≡ Some e.0) = got-in (filter is_start es) e.0 e.1 in
    let k : ℕ = length (filter is_continuation es) + j.0 in
    let at : slice_get xs k ≡ Some e.0 = ap (λ ys. slice_get ys k) s ∙ got-right (filter is_continuation es) (filter is_start es) j.0 e.0 j.1 in
    let within : k < length xs = slice_get_within xs k e.0 at in
    true≢false (sym e.2 ∙ none k e.0 (omega (arith, n)) (omega (arith, within, all)) at))
