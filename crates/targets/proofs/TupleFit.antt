-- In a content a nil tuple has no members, and tuples stand at most 100 deep.
use Rattle.std.proofs.Common.{◌≡◌, ◌∙◌, ap, refl, subst, sym, ℕ, zero, suc, ◌≤◌, Bool, true, false, List, [], ◌∷◌, Option, Some, None, arith, rules}
use Rattle.std.specs.List.{Contains, filter, list_all}
use Rattle.std.specs.Option.{option_map_or}
use Rattle.std.specs.Ordering.{on}
use Rattle.std.specs.Prelude.{nat_le, ◌&&◌}
use Rattle.std.proofs.lemmas.Bool.{and_from, and_parts, both_ways, le-leb, or_parts}
use Rattle.ix_base.specs.declared.limits.TheConstants.{DEEPEST_TUPLE}
use Rattle.ix_base.specs.declared.content.Content.{Content}
use Rattle.ix_base.specs.declared.content.Fact.{Fact, out-Fact, the_lemmas}
use Rattle.ix_base.specs.declared.content.Fact.TheOpen.{Fact-F}
use Rattle.ix_base.specs.declared.content.Fact.TheVariants as fact
use Rattle.ix_base.specs.declared.content.Item.{Item}
use Rattle.ix_base.specs.declared.content.Tuple.{Tuple}
use Rattle.ix_base.specs.declared.rule.Rule.TheVariants as rule
use Rattle.ix_base.specs.Asks.{asks}
use Rattle.ix_base.specs.Facts.{Facts, before, facts_of, item, none, tuple}
use Rattle.ix_base.specs.LinkRules.{lacks_tuple}
use Rattle.ix_base.specs.LocatedElements.{Located, is_fact, is_nil, same_place}
use Rattle.ix_base.specs.Membership.{deepest, is_owned_by, members, order_of, owner}
use Rattle.ix_base.specs.Orders.{order_cmp}
use Rattle.ix_base.specs.SortedLists.{sorted}
use Rattle.ix_base.proofs.FactLaws.{before-Item, before-Tuple}
use Rattle.ix_base.proofs.OnceLemmas.{Contains-first, Contains-from_filter, Contains-later, Contains-nil}
use Rattle.instance_lines.specs.Arrangement.{arranged, by_line}
use Rattle.instance_lines.specs.Canonical.{content_spaces}
use Rattle.instance_lines.specs.Elements.{fact_markup}
use Rattle.instance_out.specs.Proper.{is_none_nil, nil_is_empty, tuples_fit}
use Rattle.ix_base.specs.PlainContents.{said_of}
use Rattle.instance_lines.specs.Writable.{depth}
use Rattle.instance_lines.proofs.WritableLaws.{writable-arranged}
use Rattle.targets.specs.ValidSets.{IsClean}
use Rattle.target_contents.specs.Contents.{IsContent, SaysItem, is_outer}
use Rattle.target_contents.specs.PageSet.{PageSet, base_at, elements}
use Rattle.target_contents.specs.TargetFacts.{AreFacts, members_read, one_less}
use Rattle.targets.proofs.UnbrokenLaws.{elements-apart, elements-owned, link-unbroken, none-too-deep}
use Rattle.target_contents.proofs.ContentLaws.{gathered-writable, outer-shallow}
use Rattle.targets.proofs.HasLaws.{all-at, from-sorted}
use Rattle.target_contents.proofs.MemberLaws.{all-pass}

owner-at : (t : Located) (o : Option Located) → option_map_or (same_place t) o false ≡ true → (p : Located) × (o ≡ Some p) × (same_place t p ≡ true)
owner-at t None h = absurd (cc)
owner-at t (Some p) h = (p, refl, h)

none-there : {X : Type 0} (xs : List X) → ((x : X) → Contains xs x → ⊥) → xs ≡ []
none-there [] h = refl
none-there (x ∷ xs) h = absurd (h x (Contains-first x xs))

with-true : (b c : Bool) → b ≡ true → (b && c) ≡ false → c ≡ false
with-true true c h e = e
with-true false c h e = absurd (cc)

module _ (Says : Located → Item → Type 0) (all : List Located)
    (apart : (x y : Located) → Contains all x → Contains all y → same_place x y ≡ true → x ≡ y)
    (owned : (e o : Located) → Contains all e → owner (asks all) e ≡ Some o → Contains all o)
    (held : (e : Located) → Contains all e → lacks_tuple (asks all) e ≡ false) where
  member-from : (t x : Located) → Contains (members all t) x → Contains all x × (is_owned_by (asks all) t x ≡ true)
  member-from t x h =
      Contains-from_filter (is_owned_by (asks all) t) all x (from-sorted (on order_of order_cmp) (filter (is_owned_by (asks all) t) all) x h)

  no-member : (t x : Located) → Contains all t → is_nil t ≡ true → Contains (members all t) x → ⊥
  no-member t x there nil h =
      let m = member-from t x h in
      let fact = and_parts (is_fact x) (option_map_or (same_place t) (owner (asks all) x) false) m.1 in
      let found = owner-at t (owner (asks all) x) fact.1 in
      let same : t ≡ found.0 = apart t found.0 there (owned x found.0 m.0 found.1) found.2 in
      let missing = with-true (is_fact x) _ fact.0 (held x m.0) in
      let full : option_map_or is_nil (owner (asks all) x) false ≡ false = (or_parts _ _ missing).1 in
      both_ways (is_nil t) (ap is_nil same ∙ sym (ap (λ o. option_map_or is_nil o false) found.1) ∙ full) nil

  nil-members : (n : ℕ) (t : Located) → Contains all t → is_nil t ≡ true → members_read n all t ≡ []
  nil-members zero t there nil = refl
  nil-members (suc n) t there nil = none-there (members all t) (λ x h. no-member t x there nil h)

  read-from : (n : ℕ) (t x : Located) → Contains (members_read n all t) x → Contains all x
  read-from zero t x h = absurd (Contains-nil x h)
  read-from (suc n) t x h = (member-from t x h).0

  no-facts : (n : ℕ) (within : Facts) → AreFacts Says all n [] within → is_none_nil true within ≡ true
  no-facts n none are = refl
  no-facts n (item i rest) are = absurd are
  no-facts n (tuple name id nil members rest) are = absurd are

  nil-fits : (n m : ℕ) (t : Located) (b : Bool) (within : Facts) → Contains all t → b ≡ is_nil t → AreFacts Says all m (members_read n all t) within
      → is_none_nil b within ≡ true
  nil-fits n m t false within there e are = refl
  nil-fits n m t true within there e are =
      no-facts m within (subst (λ xs. AreFacts Says all m xs within) (nil-members n t there (sym e)) are)

  all-empty : (n : ℕ) (xs : List Located) → ((x : Located) → Contains xs x → Contains all x) → (facts : Facts) → AreFacts Says all n xs facts
      → nil_is_empty facts ≡ true
  all-empty n [] h none are = refl
  all-empty n [] h (item i rest) are = absurd are
  all-empty n [] h (tuple name id nil within rest) are = absurd are
  all-empty n (x ∷ xs) h none are = absurd are
  all-empty n (x ∷ xs) h (item i rest) are = all-empty n xs (λ y k. h y (Contains-later x xs y k)) rest are.2
  all-empty n (x ∷ xs) h (tuple name id nil within rest) are =
      and_from (is_none_nil nil within && nil_is_empty within) (nil_is_empty rest)
      (and_from (is_none_nil nil within) (nil_is_empty within)
      (nil-fits n (one_less n) x nil within (h x (Contains-first x xs)) are.3 are.4)
      (all-empty (one_less n) (members_read n all x) (λ y k. read-from n x y k) within are.4))
      (all-empty n xs (λ y k. h y (Contains-later x xs y k)) rest are.5)

-- Facts one by one.

abbrev empty_in : Fact → Bool
empty_in f = nil_is_empty (before f none)

and-true : (b : Bool) → (b && true) ≡ b
and-true true = refl
and-true false = refl

empty-by : (f : Fact) (rest : Facts) (o : Fact-F Fact Tuple) → out-Fact f ≡ o → nil_is_empty (before f rest) ≡ (empty_in f && nil_is_empty rest)
empty-by f rest (Fact-F.Item i) e =
    let same : f ≡ fact.Item i = search (rules, the_lemmas) in
    let here : empty_in f ≡ true = ap empty_in same ∙ ap nil_is_empty (before-Item i none) in
    ap (λ g. nil_is_empty (before g rest)) same ∙ ap nil_is_empty (before-Item i rest) ∙ sym (ap (λ b. b && nil_is_empty rest) here)
empty-by f rest (Fact-F.Tuple t) e =
    let same : f ≡ fact.Tuple t = search (rules, the_lemmas) in
    let within = facts_of t.members in
    let here : empty_in f ≡ (is_none_nil t.nil within && nil_is_empty within) =
    ap empty_in same ∙ ap nil_is_empty (before-Tuple t none) ∙ and-true (is_none_nil t.nil within && nil_is_empty within) in
    ap (λ g. nil_is_empty (before g rest)) same ∙ ap nil_is_empty (before-Tuple t rest) ∙ sym (ap (λ b. b && nil_is_empty rest) here)

empty-all : (fs : List Fact) → nil_is_empty (facts_of fs) ≡ list_all empty_in fs
empty-all [] = refl
empty-all (f ∷ fs) = empty-by f (facts_of fs) (out-Fact f) refl ∙ ap (λ b. empty_in f && b) (empty-all fs)

empty-arranged : (c : Content) → nil_is_empty (facts_of c.facts) ≡ true → nil_is_empty (facts_of (arranged c).facts) ≡ true
unfolding arranged
empty-arranged c h =
    let R = by_line (fact_markup (content_spaces c (facts_of c.facts))) in
    empty-all (sorted R c.facts)
    ∙ all-pass empty_in (sorted R c.facts) (λ f k. all-at empty_in c.facts (sym (empty-all c.facts) ∙ h) f (from-sorted R c.facts f k))

fits-of : (c : Content) → nil_is_empty (facts_of c.facts) ≡ true → depth (facts_of c.facts) ≤ DEEPEST_TUPLE → tuples_fit (said_of c) ≡ true
unfolding tuples_fit
fits-of c h d = and_from (nil_is_empty (facts_of c.facts)) (nat_le (depth (facts_of c.facts)) DEEPEST_TUPLE) h (le-leb (depth (facts_of c.facts)) DEEPEST_TUPLE d)

pub tuples-fit : (s : PageSet) → IsClean s → (target : List ℕ) (c : Content) → IsContent (base_at s) (elements s) target c
    → tuples_fit (said_of c) ≡ true
tuples-fit s clean target c content =
    let es = elements s in
    let g = content.0 in
    let facts = content.1.facts in
    let outer : (x : Located) → Contains (filter (is_outer (asks es) target) es) x → Contains es x =
    λ x h. (Contains-from_filter (is_outer (asks es) target) es x h).0 in
    let empty = all-empty (SaysItem (base_at s) es) es (elements-apart s clean) (elements-owned s)
    (λ e h. link-unbroken s clean rule.L8 (7, omega arith, refl) e h) deepest (filter (is_outer (asks es) target) es) outer (facts_of g.facts) facts in
    let deep = outer-shallow (base_at s) es target (facts_of g.facts) (elements-apart s clean) (elements-owned s) (none-too-deep s clean) facts in
    let writable = writable-arranged g (gathered-writable es target g content.1.contexts deep) in
    subst (λ x. tuples_fit (said_of x) ≡ true) (sym content.2) (fits-of (arranged g) (empty-arranged g empty) writable.tuples)
