-- The places of what chains reach.
use Rattle.std.proofs.Common.{◌≡◌, ◌∙◌, ◌+◌, ◌<◌, ◌≤◌, ◌++◌, ℕ, Bool, true, false, List, length, refl, ap, sym, subst, arith, Option, Some, ◌⊎◌, inl, inr}
use Rattle.std.proofs.lemmas.Bool.{cases_eq, true≢false}
use Rattle.std.proofs.lemmas.Option.{slice_get_within}
use Rattle.std.specs.Prelude.{◌&&◌, ◌||◌}
use Rattle.std.specs.List.{filter, list_any, slice_get}
use Rattle.indexmap.specs.IndexSet.{IndexSet}
use Rattle.ix_base.specs.Asks.{asks}
use Rattle.ix_base.specs.Chain.{chain_of}
use Rattle.ix_base.specs.LinkRules.{is_at}
use Rattle.ix_base.specs.LocatedElements.{Located, is_start, is_continuation}
use Rattle.id_table.specs.Tables.{all_located}
use Rattle.continuations.specs.Links.{AreLinks}
use Rattle.continuations.specs.declared.links.Links.{Links}
use Rattle.continuations.specs.Places.{holds, StandsFor, HoldsMarked}
use Rattle.continuations.specs.ChainReach.{reached_by, most_of}
use Rattle.continuations.specs.Walks.{walk, Reaches, AreNexts, AreReached, is_marked}
use Rattle.continuations.proofs.Numbering.{IsIn, got-in, got-right, got-behind, got-at}
use Rattle.continuations.proofs.Reaching.{chain-has, chain-found, any-flat, flat-any, same-bool}
use Rattle.continuations.proofs.Walking.{some-inj, soon}

-- numbered elements of a set: the continuations, and behind them those with which chains begin
pub record AreOf (es xs : List Located) (count : ℕ) (ns : List (Option ℕ)) : Type 0 where
  pub spots : xs ≡ filter is_continuation es ++ filter is_start es
  pub counted : count ≡ length (filter is_continuation es)
  pub nexts : AreNexts (asks es) xs count ns

pub of-links : (es : List Located) (l : Links) → AreLinks es l → AreOf es (all_located l.spots.items) l.continuations l.nexts.items
of-links es l h = record { spots = h.spots; counted = h.counted; nexts = h.nexts }

-- the element with which a chain begins, by its number
pub start-at : (es xs : List Located) (count : ℕ) (ns : List (Option ℕ)) → AreOf es xs count ns → (h : ℕ) → count ≤ h → h < length ns
    → (s : Located) × (slice_get xs h ≡ Some s) × IsIn s (filter is_start es)
start-at es xs count ns o h low high =
    let at : (s : Located) × (slice_get xs h ≡ Some s) = got-at xs h (subst (λ n. h < n) o.nexts.length_is high) in
    (at.0, at.1, got-behind (filter is_continuation es) (filter is_start es) h at.0 (subst (λ n. n ≤ h) o.counted low) (ap (λ ys. slice_get ys h) (sym o.spots) ∙ at.1))

-- its number
pub start-number : (es xs : List Located) (count : ℕ) (ns : List (Option ℕ)) → AreOf es xs count ns → (s : Located) → IsIn s (filter is_start es)
    → (h : ℕ) × (count ≤ h) × (h < length ns) × (slice_get xs h ≡ Some s)
start-number es xs count ns o s i =
    let at : (k : ℕ) × (slice_get (filter is_start es) k ≡ Some s) = got-in (filter is_start es) s i in
    let h : ℕ = length (filter is_continuation es) + at.0 in
    let got : slice_get xs h ≡ Some s = ap (λ ys. slice_get ys h) o.spots ∙ got-right (filter is_continuation es) (filter is_start es) at.0 s at.1 in
    let low : count ≤ h = subst (λ n. n ≤ h) (sym o.counted) (omega arith) in
    (h, low, subst (λ n. h < n) (sym o.nexts.length_is) (slice_get_within xs h s got), got)

-- what a walk from the start of a chain reaches is in the chain
pub chain-long : (es xs : List Located) (count : ℕ) (ns : List (Option ℕ)) → AreOf es xs count ns → (q : Located → Bool) (h k : ℕ) (s e : Located)
    → Reaches ns h k → slice_get xs h ≡ Some s → slice_get xs k ≡ Some e → q e ≡ true → list_any q (chain_of (asks es) (most_of (asks es)) s) ≡ true
chain-long es xs count ns o q h k s e r at got t =
    let fast : (t : ℕ) × (t ≤ count) × (walk ns t h ≡ Some k) = soon ns count o.nexts.below h k r in
    let c : count ≡ length (filter is_continuation es) = o.counted in
    chain-has (asks es) xs count ns o.nexts q fast.0 (most_of (asks es)) h k s e fast.2 (omega (arith, fast.1, c)) at got t

-- the places of the marked ones are those of what chains reach
pub reached-stands : {S : Type 0} (places : IndexSet (ℕ × ℕ) S) (es xs : List Located) (count : ℕ) (ns : List (Option ℕ)) (marks : List Bool)
    → AreOf es xs count ns → AreReached ns count (length ns) marks → HoldsMarked places xs marks (length xs)
    → StandsFor places (reached_by (asks es) (most_of (asks es)) es)
reached-stands places es xs count ns marks o r p = λ page offset. same-bool (holds places page offset) _ (to page offset, from page offset) where
  to : (page offset : ℕ) → holds places page offset ≡ true → list_any (is_at page offset) (reached_by (asks es) (most_of (asks es)) es) ≡ true
  to page offset h =
      let f : (k : ℕ) × (e : Located) × (slice_get xs k ≡ Some e) × (is_marked marks k ≡ true) × (is_at page offset e ≡ true) = p.found page offset h in
      let by : (h : ℕ) × (count ≤ h) × (h < length ns) × Reaches ns h f.0 = (r f.0).0 f.3 in
      let s : (s : Located) × (slice_get xs by.0 ≡ Some s) × IsIn s (filter is_start es) = start-at es xs count ns o by.0 by.1 by.2 in
      flat-any (is_at page offset) (chain_of (asks es) (most_of (asks es))) (filter is_start es) s.0 s.2
      (chain-long es xs count ns o (is_at page offset) by.0 f.0 s.0 f.1 by.3 s.1 f.2 f.4)

  from : (page offset : ℕ) → list_any (is_at page offset) (reached_by (asks es) (most_of (asks es)) es) ≡ true → holds places page offset ≡ true
  from page offset h =
      let s : (s : Located) × IsIn s (filter is_start es) × (list_any (is_at page offset) (chain_of (asks es) (most_of (asks es)) s) ≡ true)
      = any-flat (is_at page offset) (chain_of (asks es) (most_of (asks es))) (filter is_start es) h in
      let n : (h : ℕ) × (count ≤ h) × (h < length ns) × (slice_get xs h ≡ Some s.0) = start-number es xs count ns o s.0 s.1 in
      let f : (j : ℕ) × (e : Located) × Reaches ns n.0 j × (slice_get xs j ≡ Some e) × (is_at page offset e ≡ true)
      = chain-found (asks es) xs count ns o.nexts (is_at page offset) (most_of (asks es)) n.0 s.0 n.3 s.2 in
      p.kept page offset f.0 f.1 (slice_get_within xs f.0 f.1 f.3) f.3 ((r f.0).1 n.0 n.1 n.2 f.2) f.4

-- one place more, where the element is marked
pub held-more : {S : Type 0} (old new : IndexSet (ℕ × ℕ) S) (xs : List Located) (marks : List Bool) (i : ℕ) (x : Located) (b : Bool)
    → HoldsMarked old xs marks i → slice_get xs i ≡ Some x → b ≡ is_marked marks i
    → ((page offset : ℕ) → holds new page offset ≡ (b && is_at page offset x || holds old page offset)) → HoldsMarked new xs marks (i + 1)
held-more old new xs marks i x b p at m grown = record {
  found = λ page offset h. found page offset b (is_at page offset x) refl refl (sym (grown page offset) ∙ h);
  kept = λ page offset k e l s t q. grown page offset ∙ kept page offset k e s t q l (cases_eq k i);
} where
  found : (page offset : ℕ) (c d : Bool) → b ≡ c → is_at page offset x ≡ d → (c && d || holds old page offset) ≡ true
      → (k : ℕ) × (e : Located) × (slice_get xs k ≡ Some e) × (is_marked marks k ≡ true) × (is_at page offset e ≡ true)
  found page offset true true e f h = (i, x, at, sym m ∙ e, f)
  found page offset true false e f h = p.found page offset h
  found page offset false d e f h = p.found page offset h

  old-kept : (c d : Bool) → d ≡ true → (c || d) ≡ true
  old-kept true d h = refl
  old-kept false d h = h

  new-kept : (c d f : Bool) → c ≡ true → d ≡ true → (c && d || f) ≡ true
  new-kept true true f h k = refl
  new-kept true false f h k = absurd (true≢false (sym k))
  new-kept false d f h k = absurd (true≢false (sym h))

  kept : (page offset k : ℕ) (e : Located) → slice_get xs k ≡ Some e → is_marked marks k ≡ true → is_at page offset e ≡ true → k < i + 1 → (k ≡ i) ⊎ (k ≡ i → ⊥)
      → (b && is_at page offset x || holds old page offset) ≡ true
  kept page offset k e s t q l (inl same) =
      let y : e ≡ x = some-inj e x (sym s ∙ ap (slice_get xs) same ∙ at) in
      new-kept b (is_at page offset x) (holds old page offset) (m ∙ sym (ap (is_marked marks) same) ∙ t) (ap (is_at page offset) (sym y) ∙ q)
  kept page offset k e s t q l (inr other) =
      old-kept (b && is_at page offset x) (holds old page offset) (p.kept page offset k e (omega (arith, l, other)) s t q)

pub of-same : (es xs ys : List Located) (count : ℕ) (ns ms : List (Option ℕ)) → ys ≡ xs → ms ≡ ns → AreOf es xs count ns → AreOf es ys count ms
of-same es xs ys count ns ms e f o = subst (λ (x : List Located). AreOf es x count ms) (sym e) (subst (λ (x : List (Option ℕ)). AreOf es xs count x) (sym f) o)

pub of-alike : (es xs ys : List Located) (count n : ℕ) (ns ms : List (Option ℕ)) → ys ≡ xs → n ≡ count → ms ≡ ns → AreOf es xs count ns → AreOf es ys n ms
of-alike es xs ys count n ns ms e k f o = subst (λ (m : ℕ). AreOf es ys m ms) (sym k) (of-same es xs ys count ns ms e f o)
