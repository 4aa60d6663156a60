-- An index without choices, of which no id stands twice.
use Rattle.std.proofs.Common.{◌≡◌, ◌∙◌, ap, inl, inr, refl, subst, sym, Bool, true, false, ◌&&◌, ◌||◌, ◌++◌, ℕ, nat_lt, List, [], ◌∷◌, length, Option, Some, None, is_none, is_some}
use Rattle.std.specs.List.{Contains, flat_map}
use Rattle.std.specs.Option.{option_map_or}
use Rattle.std.proofs.lemmas.Slice.Eq.{bytes_eq-Decides}
use Rattle.ix_base.specs.declared.breach.Found.{Found}
use Rattle.ix_base.specs.declared.rule.Rule.TheVariants.{L1}
use Rattle.ix_base.specs.Asks.{are_many}
use Rattle.ix_base.specs.Ids.{agree, holders, holds_id, holds_tuple_id, id_of, tuple_id_of}
use Rattle.ix_base.specs.LinkRules.{found_at}
use Rattle.ix_base.specs.LocatedElements.{Located, is_text}
use Rattle.ix_base.specs.Rows.{row}
use Rattle.ix_base.proofs.OnceLemmas.{Contains-cases, Contains-first, Contains-from_filter, Contains-nil}
use Rattle.id_table.specs.Model.{AreChosen, Choice, Held, asked, chosen, chosen_in, doubled_at, repeats_held}

row-empty : (b : Bool) (x : Found) (xs : List Found) → row b x ++ xs ≡ [] → (b ≡ false) × (xs ≡ [])
row-empty true x xs h = absurd (let z : x ∷ xs ≡ [] = h in cc)
row-empty false x xs h = (refl, h)

none-repeats : (h : Held) (es : List Located) → flat_map (doubled_at h) es ≡ [] → (e : Located) → Contains es e → repeats_held h e ≡ false
none-repeats h [] none e c = absurd (Contains-nil e c)
none-repeats h (x ∷ es) none e c =
    let parts = row-empty (repeats_held h x) (found_at x L1) (flat_map (doubled_at h) es) none in
    elim (Contains-cases x es e c) [
      | inl s ↦ subst (λ y. repeats_held h y ≡ false) s parts.0
      | inr l ↦ none-repeats h es parts.1 e l
    ]

or-first : (a b : Bool) → (a || b) ≡ false → a ≡ false
or-first false b h = refl
or-first true b h = absurd (let z : true ≡ false = h in cc)

and-first : (a : Bool) → (a && true) ≡ false → a ≡ false
and-first false h = refl
and-first true h = absurd (let z : true ≡ false = h in cc)

text-of : (id : List ℕ) (o : Option (List ℕ)) → is_text id o ≡ true → o ≡ Some id
text-of id None h = absurd (let z : false ≡ true = h in cc)
text-of id (Some t) h = ap Some (sym ((bytes_eq-Decides id t).0 h))

pub apart_chosen : (h : Held) → h.choices ≡ [] → flat_map (doubled_at h) h.spots ≡ [] → AreChosen h
apart_chosen h bare none id =
    ap is_some without ∙ sym (ap (λ b. b && agree (asked h) id) few)
  where
    without : chosen h id ≡ None
    without = ap (λ (cs : List Choice). chosen_in cs id) bare

    by : (hs : List Located) → holders h.spots id ≡ hs → are_many (asked h) (holds_id id) ≡ false
    by [] e = ap (λ l. nat_lt 1 (length l)) e
    by (x ∷ xs) e =
        let from = Contains-from_filter (holds_id id) h.spots x (subst (λ l. Contains l x) (sym e) (Contains-first x xs)) in
        let own = or-first _ (option_map_or (λ i. are_many (asked h) (holds_tuple_id i)) (tuple_id_of x) false) (none-repeats h h.spots none x from.0) in
        let here : (are_many (asked h) (holds_id id) && is_none (chosen h id)) ≡ false =
        sym (ap (λ o. option_map_or (λ i. are_many (asked h) (holds_id i) && is_none (chosen h i)) o false) (text-of id (id_of x) from.1)) ∙ own in
        and-first (are_many (asked h) (holds_id id)) (sym (ap (λ o. are_many (asked h) (holds_id id) && is_none o) without) ∙ here)

    few : are_many (asked h) (holds_id id) ≡ false
    few = by (holders h.spots id) refl
