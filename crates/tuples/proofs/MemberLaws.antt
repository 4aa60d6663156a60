-- Members of tuples.
use Rattle.std.proofs.Common.{◌≡◌, ◌∙◌, ℕ, Bool, true, false, cond, suc, List, [], ◌∷◌, length, refl, ap, sym, Option, Some, None}
use Rattle.std.specs.Prelude.{◌&&◌, nat_lt}
use Rattle.std.specs.List.{filter, All, AllByRecursion}
use Rattle.std.specs.Option.{option_map_or}
use Rattle.std.proofs.lemmas.List.Elements.{recursion_from_All}
use Rattle.std.specs.declared.cmp.Ordering.{Ordering}
use Rattle.std.specs.declared.cmp.Ordering.TheVariants.{Less, Equal, Greater}
use Rattle.ix_base.proofs.StableLemmas.{sorted-map}
use Rattle.ix_base.specs.Asks.{Asks, asks}
use Rattle.ix_base.specs.LinkRules.{is_at, ties, same_order, are_many}
use Rattle.ix_base.specs.LocatedElements.{Located, is_fact, same_place, offset_of}
use Rattle.ix_base.specs.Membership.{owner}
use Rattle.ix_base.specs.SortedLists.{put_by, put, sorted}
use Rattle.tuples.specs.declared.fact.Fact.{Fact}
use Rattle.tuples.specs.MemberTables.{is_member_at, members_at}
use Rattle.tuples.specs.OwnedFacts.{all_seen, by_order, fact_cmp, is_owned_at, seen, IsKnown}

keep : (p : Located → Bool) (b : Bool) (e : Located) (es rest : List Located) → filter p es ≡ rest
    → filter p (cond b (e ∷ es) es) ≡ cond (b && p e) (e ∷ rest) rest
keep p true e es rest h = ap (λ l. cond (p e) (e ∷ l) l) h
keep p false e es rest h = h

twice : (p q : Located → Bool) (es : List Located) → filter p (filter q es) ≡ filter (λ f. q f && p f) es
twice p q [] = refl
twice p q (e ∷ es) = keep p (q e) e (filter q es) (filter (λ f. q f && p f) es) (twice p q es)

kept-seen : (b c : Bool) (f : Fact) (fs : List Fact) (es : List Located) → b ≡ c → all_seen fs ≡ es → all_seen (cond b (f ∷ fs) fs) ≡ cond c (seen f ∷ es) es
kept-seen true c f fs es e h = (λ i. seen f ∷ h i) ∙ ap (λ b. cond b (seen f ∷ es) es) e
kept-seen false c f fs es e h = h ∙ ap (λ b. cond b (seen f ∷ es) es) e

owned-seen : (a : Asks Located) (page offset : ℕ) (facts : List Fact) → AllByRecursion (IsKnown a) facts
    → all_seen (filter (is_owned_at page offset) facts) ≡ filter (λ e. option_map_or (is_at page offset) (owner a e) false) (all_seen facts)
owned-seen a page offset [] known = refl
owned-seen a page offset (f ∷ fs) known =
    kept-seen (is_owned_at page offset f) _ f _ _ (ap (λ o. option_map_or (is_at page offset) o false) known.0) (owned-seen a page offset fs known.1)

-- the facts that stand with the tuple at a place as their owner are its members
pub members-are : (es : List Located) (facts : List Fact) (page offset : ℕ) → all_seen facts ≡ filter is_fact es → All (IsKnown (asks es)) facts
    → all_seen (sorted fact_cmp (filter (is_owned_at page offset) facts)) ≡ members_at es page offset
members-are es facts page offset e known =
    sym (sorted-map fact_cmp by_order seen (λ x y. refl) (filter (is_owned_at page offset) facts))
    ∙ ap (sorted by_order) (owned-seen (asks es) page offset facts (recursion_from_All (IsKnown (asks es)) facts known)
    ∙ ap (filter (λ f. option_map_or (is_at page offset) (owner (asks es) f) false)) e ∙ twice _ is_fact es)

module _ {X : Type 0} (R : X → X → Ordering) (p : X → Bool) where
  either : (b c : Bool) (x y : X) (xs ys : List X) → length xs ≡ length (cond b (x ∷ ys) ys)
      → length (cond c (y ∷ xs) xs) ≡ length (cond b (x ∷ cond c (y ∷ ys) ys) (cond c (y ∷ ys) ys))
  either true true x y xs ys h = ap suc h
  either true false x y xs ys h = h
  either false true x y xs ys h = ap suc h
  either false false x y xs ys h = h

  count-put_by : (r : Ordering) (x y : X) (ys more : List X) → length (filter p more) ≡ length (filter p (x ∷ ys))
      → length (filter p (put_by r x y ys more)) ≡ length (filter p (x ∷ y ∷ ys))
  count-put_by Less x y ys more h = refl
  count-put_by Equal x y ys more h = refl
  count-put_by Greater x y ys more h = either (p x) (p y) x y (filter p more) (filter p ys) h

  count-put : (x : X) (ys : List X) → length (filter p (put R x ys)) ≡ length (filter p (x ∷ ys))
  count-put x [] = refl
  count-put x (y ∷ ys) = count-put_by (R x y) x y ys (put R x ys) (count-put x ys)

  same-count : (b : Bool) (x : X) (xs ys : List X) → length xs ≡ length ys → length (cond b (x ∷ xs) xs) ≡ length (cond b (x ∷ ys) ys)
  same-count true x xs ys h = ap suc h
  same-count false x xs ys h = h

  -- sorting keeps the number of those that pass
  pub count-sorted : (xs : List X) → length (filter p (sorted R xs)) ≡ length (filter p xs)
  unfolding sorted
  count-sorted [] = refl
  count-sorted (x ∷ xs) = count-put x (sorted R xs) ∙ same-count (p x) x (filter p (sorted R xs)) (filter p xs) (count-sorted xs)

filter-same : (p q : Located → Bool) → ((x : Located) → p x ≡ q x) → (xs : List Located) → filter p xs ≡ filter q xs
filter-same p q h [] = refl
filter-same p q h (x ∷ xs) = λ i. cond (h x i) (x ∷ filter-same p q h xs i) (filter-same p q h xs i)

same-by : (a : Asks Located) (e o : Located) (r : Option Located) (f : Located) → r ≡ Some o
    → (is_member_at a o.page (offset_of o) f && same_order e f)
    ≡ (is_fact f && option_map_or (λ o. option_map_or (same_place o) (owner a f) false) r false && same_order e f)
same-by a e o r f h = ap (λ r. is_fact f && option_map_or (λ o. option_map_or (same_place o) (owner a f) false) r false && same_order e f) (sym h)

neither : (b c : Bool) → (b && false && c) ≡ false
neither true c = refl
neither false c = refl

same-none : (a : Asks Located) (e : Located) (r : Option Located) (f : Located) → r ≡ None
    → (is_fact f && option_map_or (λ o. option_map_or (same_place o) (owner a f) false) r false && same_order e f) ≡ false
same-none a e r f h =
    ap (λ r. is_fact f && option_map_or (λ o. option_map_or (same_place o) (owner a f) false) r false && same_order e f) h ∙ neither (is_fact f) (same_order e f)

nothing-kept : (xs : List Located) → filter (λ x. false) xs ≡ []
nothing-kept [] = refl
nothing-kept (x ∷ xs) = nothing-kept xs

-- of the members of a fact's tuple more than one has its order
pub repeated-among : (es : List Located) (e o : Located) → owner (asks es) e ≡ Some o
    → nat_lt 1 (length (filter (same_order e) (members_at es o.page (offset_of o)))) ≡ are_many (asks es) (ties (asks es) e)
repeated-among es e o h =
    ap (nat_lt 1) (count-sorted by_order (same_order e) (filter (is_member_at (asks es) o.page (offset_of o)) es))
    ∙ ap (λ l. nat_lt 1 (length l)) (twice (same_order e) (is_member_at (asks es) o.page (offset_of o)) es
    ∙ filter-same (λ f. is_member_at (asks es) o.page (offset_of o) f && same_order e f) (ties (asks es) e) (λ f. same-by (asks es) e o (owner (asks es) e) f h) es)

pub none-repeated : (es : List Located) (e : Located) → owner (asks es) e ≡ None → false ≡ are_many (asks es) (ties (asks es) e)
none-repeated es e h =
    ap (λ l. nat_lt 1 (length l)) (sym (filter-same (ties (asks es) e) (λ f. false) (λ f. same-none (asks es) e (owner (asks es) e) f h) es ∙ nothing-kept es))
