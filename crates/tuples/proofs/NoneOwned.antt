-- Elements that no tuple owns, none of which is a tuple or refers to one.
use Rattle.std.proofs.Common.{◌≡◌, ◌∙◌, ◌++◌, ap, sym, refl, append-nil, cond, Bool, true, false, ℕ, List, [], ◌∷◌, length, Option, None, is_some, is_none, not}
use Rattle.std.proofs.Math.Bool.{and-false}
use Rattle.std.proofs.lemmas.Bool.{or_parts}
use Rattle.std.proofs.lemmas.List.Elements.{All-head, All-tail, All-weaker}
use Rattle.std.specs.List.{All, filter, flat_map, list_any}
use Rattle.std.specs.Option.{option_map_or}
use Rattle.std.specs.Prelude.{◌&&◌, ◌||◌, ◌==◌, nat_lt, codes}
use Rattle.ix_base.specs.declared.breach.Found.{Found}
use Rattle.ix_base.specs.declared.rule.Rule.TheVariants.{L8, L9, L10, L12, L13}
use Rattle.ix_base.specs.Asks.{asks, only}
use Rattle.ix_base.specs.Ids.{holds_tuple_id, one_tuple}
use Rattle.ix_base.specs.LinkRules.{breaking, breaks_link, broken_at, found_at, same_order, same_target, ties}
use Rattle.ix_base.specs.LocatedElements.{Located, is_fact, is_nil, is_text, is_tuple, same_place, token_at}
use Rattle.ix_base.specs.Membership.{deepest, is_owned_by, members, order_of, owner, owners, tuple_ref_of}
use Rattle.ix_base.specs.Rows.{row}
use Rattle.ix_base.specs.SortedLists.{sorted}
use Rattle.id_table.specs.Model.{AreUnowned, is_of_tuples}
use Rattle.tuples.specs.declared.rules.Test.{Test}
use Rattle.tuples.specs.declared.rules.Test.TheVariants as test
use Rattle.tuples.specs.Model.{AreMembersOf}
use Rattle.tuples.specs.OwnedFacts.{by_order}
use Rattle.tuples.specs.Tests.{tuple_rule}
use Rattle.tuples.proofs.KeptLaws.{owner-same}

none-kept : (p : Located → Bool) (es : List Located) → All (λ e. p e ≡ false) es → filter p es ≡ []
none-kept p [] h = refl
none-kept p (e ∷ es) h =
    ap (λ b. cond b (e ∷ filter p es) (filter p es)) (All-head (λ x. p x ≡ false) e es h) ∙ none-kept p es (All-tail (λ x. p x ≡ false) e es h)

no-member : (es : List Located) (t e : Located) → owner (asks es) e ≡ None → is_owned_by (asks es) t e ≡ false
no-member es t e h = ap (λ o. is_fact e && option_map_or (same_place t) o false) h ∙ and-false (is_fact e)

no-members : (es : List Located) (t : Located) → AreUnowned es → members es t ≡ []
unfolding sorted
no-members es t h =
    ap (sorted by_order) (none-kept (is_owned_by (asks es) t) es
    (All-weaker (λ e. owner (asks es) e ≡ None) (λ e. is_owned_by (asks es) t e ≡ false) (no-member es t) es h))

no-id : (id : List ℕ) (e : Located) → is_of_tuples e ≡ false → holds_tuple_id id e ≡ false
no-id id e h =
    ap (λ b. is_text id (cond b (token_at (codes "tupleID") e) None)) (or_parts (is_tuple e) (is_some (tuple_ref_of e)) h).0

none-held : (id : List ℕ) (es : List Located) → list_any is_of_tuples es ≡ false → filter (holds_tuple_id id) es ≡ []
none-held id [] h = refl
none-held id (e ∷ es) h =
    let parts = or_parts (is_of_tuples e) (list_any is_of_tuples es) h in
    ap (λ b. cond b (e ∷ filter (holds_tuple_id id) es) (filter (holds_tuple_id id) es)) (no-id id e parts.0) ∙ none-held id es parts.1

-- they have no members, and their owners are those of the pages
pub no-members-of : (es : List Located) → list_any is_of_tuples es ≡ false → AreUnowned es → AreMembersOf (record { lists = []; tuples = [] }) es
no-members-of es h unowned = record {
  members = λ t. sym (no-members es t unowned);
  owners = λ e. owner-same (record { lists = []; tuples = [] }) (asks es) (λ id. sym (ap only (none-held id es h))) e (tuple_ref_of e);
}

-- None of them breaks a rule on tuples.

no-ref : {X : Type 0} (o : Option X) → is_some o ≡ false → o ≡ None
no-ref None h = refl
no-ref o h = absurd (let z : true ≡ false = h in cc)

false-within : (b c : Bool) → (b && false && c) ≡ false
false-within true c = refl
false-within false c = refl

none-such : (p : Located → Bool) → ((e : Located) → p e ≡ false) → (es : List Located) → filter p es ≡ []
none-such p h [] = refl
none-such p h (e ∷ es) = ap (λ b. cond b (e ∷ filter p es) (filter p es)) (h e) ∙ none-such p h es

module _ (all : List Located) (e : Located) (h : is_of_tuples e ≡ false) (unowned : owner (asks all) e ≡ None) where
  no-tie : (f : Located) → ties (asks all) e f ≡ false
  no-tie f =
      ap (λ o. is_fact f && option_map_or (λ x. option_map_or (same_place x) (owner (asks all) f) false) o false && same_order e f) unowned
      ∙ false-within (is_fact f) (same_order e f)

  unbroken : (t : Test) → breaks_link (asks all) e (tuple_rule t) ≡ false
  unbroken test.Lacking =
      ap (λ r. is_fact e && (option_map_or (λ id. is_none (one_tuple (asks all) id)) r false || option_map_or is_nil (owner (asks all) e) false))
      (no-ref (tuple_ref_of e) (or_parts (is_tuple e) (is_some (tuple_ref_of e)) h).1)
      ∙ ap (λ o. is_fact e && (false || option_map_or is_nil o false)) unowned ∙ and-false (is_fact e)
  unbroken test.Deep =
      ap (λ b. b && length (owners (asks all) deepest e) == deepest) (or_parts (is_tuple e) (is_some (tuple_ref_of e)) h).0
  unbroken test.Leaving = ap (λ o. is_fact e && option_map_or (λ x. not (same_target e x)) o false) unowned ∙ and-false (is_fact e)
  unbroken test.Repeating =
      ap (λ (es : List Located). is_fact e && nat_lt 1 (length es)) (none-such (ties (asks all) e) no-tie all) ∙ and-false (is_fact e)
  unbroken test.Unordered = ap (λ o. is_fact e && is_some o && is_none (order_of e)) unowned ∙ false-within (is_fact e) (is_none (order_of e))

none-broken : (all : List Located) (t : Test) (es : List Located) → list_any is_of_tuples es ≡ false → All (λ e. owner (asks all) e ≡ None) es
    → flat_map (broken_at (asks all) (tuple_rule t)) es ≡ []
none-broken all t [] h unowned = refl
none-broken all t (e ∷ es) h unowned =
    let parts = or_parts (is_of_tuples e) (list_any is_of_tuples es) h in
    ap (λ b. row b (found_at e (tuple_rule t)) ++ flat_map (broken_at (asks all) (tuple_rule t)) es)
    (unbroken all e parts.0 (All-head (λ x. owner (asks all) x ≡ None) e es unowned) t)
    ∙ none-broken all t es parts.1 (All-tail (λ x. owner (asks all) x ≡ None) e es unowned)

nothing-more : (old more : List Found) → more ≡ [] → old ≡ old ++ more
nothing-more old more h = sym (ap (λ xs. old ++ xs) h ∙ append-nil old)

pub none-added : (es : List Located) → list_any is_of_tuples es ≡ false → AreUnowned es → (old : List Found)
    → old ≡ old ++ breaking L8 es ++ breaking L9 es ++ breaking L10 es ++ breaking L12 es ++ breaking L13 es
none-added es h unowned old =
    nothing-more old (breaking L8 es) (none-broken es test.Lacking es h unowned)
    ∙ nothing-more (old ++ breaking L8 es) (breaking L9 es) (none-broken es test.Deep es h unowned)
    ∙ nothing-more (old ++ breaking L8 es ++ breaking L9 es) (breaking L10 es) (none-broken es test.Leaving es h unowned)
    ∙ nothing-more (old ++ breaking L8 es ++ breaking L9 es ++ breaking L10 es) (breaking L12 es) (none-broken es test.Repeating es h unowned)
    ∙ nothing-more (old ++ breaking L8 es ++ breaking L9 es ++ breaking L10 es ++ breaking L12 es) (breaking L13 es)
    (none-broken es test.Unordered es h unowned)
