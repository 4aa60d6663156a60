-- What the numbered elements of a set say of all of it.
use Rattle.std.proofs.Common.{◌≡◌, ◌∙◌, ◌++◌, ℕ, Bool, true, false, cond, List, [], ◌∷◌, refl, ap, sym, append-nil, Option, Some, None, option_map}
use Rattle.std.proofs.lemmas.Bool.{true≢false, or_left, or_right}
use Rattle.std.proofs.lemmas.List.{map-append}
use Rattle.std.specs.Borrow.{Bor}
use Rattle.std.specs.Prelude.{◌&&◌, ◌||◌, is_some, is_none, option_and_then}
use Rattle.std.specs.List.{filter, flat_map, list_any, slice_get}
use Rattle.std.specs.Option.{option_map_or}
use Rattle.ix_base.specs.declared.rule.Rule.{Rule}
use Rattle.ix_base.specs.declared.breach.Found.{Found}
use Rattle.ix_base.specs.Asks.{Asks, asks}
use Rattle.ix_base.specs.declared.tree.Spot.{Spot}
use Rattle.ix_base.specs.Chain.{continuation, continued_at}
use Rattle.ix_base.specs.LinkRules.{breaking, breaks_link, broken_at, found_at, lacks_continuation}
use Rattle.ix_base.specs.LocatedElements.{Located, located, is_continuation, is_start}
use Rattle.ix_base.specs.Rows.{row}
use Rattle.id_table.specs.declared.chain_element.ChainElement.{ChainElement}
use Rattle.id_table.specs.Tables.{all_located, chain_spots}
use Rattle.continuations.proofs.KeptLaws.{some-map}
use Rattle.continuations.proofs.Numbering.{IsIn, in-filter, filter-in}
use Rattle.continuations.proofs.Inner.{any-in, in-any}
use Rattle.continuations.proofs.Reaching.{same-bool}
use Rattle.continuations.proofs.SeenLaws.{any-append}

-- a rule that no element breaks has no breaches
none-by : (a : Asks Located) (r : Rule) (e : Located) (b : Bool) → b ≡ false → row b (found_at e r) ≡ []
none-by a r e true h = absurd (true≢false h)
none-by a r e false h = refl

unbroken : (a : Asks Located) (r : Rule) (es : List Located) → list_any (λ e. breaks_link a e r) es ≡ false → flat_map (broken_at a r) es ≡ []
unbroken a r [] h = refl
unbroken a r (e ∷ es) h = by (breaks_link a e r) refl (unbroken a r es) h where
  by : (b : Bool) → breaks_link a e r ≡ b → (list_any (λ e. breaks_link a e r) es ≡ false → flat_map (broken_at a r) es ≡ [])
      → (b || list_any (λ e. breaks_link a e r) es) ≡ false → flat_map (broken_at a r) (e ∷ es) ≡ []
  by true t later h = absurd (true≢false h)
  by false t later h = ap (λ x. x ++ flat_map (broken_at a r) es) (none-by a r e (breaks_link a e r) t) ∙ later h

pub nothing-added : (old : List Found) (r : Rule) (es : List Located) → list_any (λ e. breaks_link (asks es) e r) es ≡ false → old ≡ old ++ breaking r es
nothing-added old r es h = sym (append-nil old) ∙ ap (λ x. old ++ x) (sym (unbroken (asks es) r es h))

-- a test that only elements of chains pass is passed by some of these where it is by some of all
pub any-kinds : (p : Located → Bool) → ((e : Located) → p e ≡ true → (is_start e || is_continuation e) ≡ true) → (es : List Located)
    → list_any p (filter is_continuation es ++ filter is_start es) ≡ list_any p es
any-kinds p of es =
    any-append p (filter is_continuation es) (filter is_start es)
    ∙ same-bool (list_any p (filter is_continuation es) || list_any p (filter is_start es)) (list_any p es) (to (list_any p (filter is_continuation es)) refl, from) where
      part : (q : Located → Bool) → list_any p (filter q es) ≡ true → list_any p es ≡ true
      part q h =
          let x : (x : Located) × IsIn x (filter q es) × (p x ≡ true) = any-in p (filter q es) h in
          in-any p es x.0 (in-filter q es x.0 x.1).0 x.2

      to : (b : Bool) → list_any p (filter is_continuation es) ≡ b → (b || list_any p (filter is_start es)) ≡ true → list_any p es ≡ true
      to true e h = part is_continuation e
      to false e h = part is_start h

      by : (x : Located) → IsIn x es → p x ≡ true → (b : Bool) → is_start x ≡ b → (b || is_continuation x) ≡ true
          → (list_any p (filter is_continuation es) || list_any p (filter is_start es)) ≡ true
      by x i h true e k = or_right (list_any p (filter is_continuation es)) (list_any p (filter is_start es)) (in-any p (filter is_start es) x (filter-in is_start es x i e) h)
      by x i h false e k = or_left (list_any p (filter is_continuation es)) (list_any p (filter is_start es)) (in-any p (filter is_continuation es) x (filter-in is_continuation es x i k) h)

      from : list_any p es ≡ true → (list_any p (filter is_continuation es) || list_any p (filter is_start es)) ≡ true
      from h = let x : (x : Located) × IsIn x es × (p x ≡ true) = any-in p es h in by x.0 x.1 x.2 (is_start x.0) refl (of x.0 x.2)

-- only elements of chains go on
continued-kind : (e : Located) (o : Option (List ℕ)) → is_some (cond (is_start e || is_continuation e) o None) ≡ true → (is_start e || is_continuation e) ≡ true
continued-kind e o h = by (is_start e || is_continuation e) h where
  by : (b : Bool) → is_some (cond b o None) ≡ true → b ≡ true
  by true h = refl
  by false h = h

pub goes-on-kind : (e : Located) → is_some (continued_at e) ≡ true → (is_start e || is_continuation e) ≡ true
goes-on-kind e h = continued-kind e _ h

pub lacking-some : (f : List ℕ → Bool) (o : Option (List ℕ)) → option_map_or f o false ≡ true → is_some o ≡ true
lacking-some f None h = absurd (true≢false (sym h))
lacking-some f (Some q) h = refl

pub lacking-kind : (a : Asks Located) (e : Located) → lacks_continuation a e ≡ true → (is_start e || is_continuation e) ≡ true
lacking-kind a e h = goes-on-kind e (lacking-some (λ q. is_none (continuation a q)) (continued_at e) h)

-- an element whose id has no number lacks its continuation
pub lacking-is : {X : Type 0} (f : List ℕ → Option Located) (g : ℕ → X) (h : Located → X) (o : Option (List ℕ)) (n : Option ℕ)
    → option_map g n ≡ option_map h (option_and_then f o) → option_map_or (λ q. is_none (f q)) o false ≡ (is_some o && is_none n)
lacking-is f g h None n e = refl
lacking-is f g h (Some q) n e = by (f q) n e where
  by : (p : Option Located) (n : Option ℕ) → option_map g n ≡ option_map h p → is_none p ≡ is_none n
  by None None e = refl
  by None (Some k) e = absurd cc
  by (Some x) None e = absurd cc
  by (Some x) (Some k) e = refl

-- an element that goes on at an id without a number lacks its continuation
pub lost-is : (a : Asks Located) (conts : List Located) (e : ChainElement) (n : Option ℕ)
    → option_map (slice_get conts) n ≡ option_map Some (option_and_then (continuation a) (option_map (λ (t : Bor (List ℕ)). t.now) e.continued_at))
    → (is_some e.continued_at && is_none n) ≡ lacks_continuation a (located e.spot.now)
lost-is a conts e n next =
    let text = λ (t : Bor (List ℕ)). t.now in
    ap (λ b. b && is_none n) (sym (some-map text e.continued_at))
    ∙ sym (lacking-is (continuation a) (slice_get conts) Some (option_map text e.continued_at) n next)
    ∙ ap (λ o. option_map_or (λ q. is_none (continuation a q)) o false) e.goes_on

-- the elements of chains, continuations first
pub both-located : (es : List Located) (conts starts : List ChainElement) → all_located (chain_spots conts) ≡ filter is_continuation es
    → all_located (chain_spots starts) ≡ filter is_start es → all_located (chain_spots conts ++ chain_spots starts) ≡ filter is_continuation es ++ filter is_start es
both-located es conts starts c s =
    map-append (λ (t : Bor Spot). located t.now) (chain_spots conts) (chain_spots starts) ∙ ap (λ xs. xs ++ all_located (chain_spots starts)) c
    ∙ ap (λ xs. filter is_continuation es ++ xs) s
