-- The items and the ids of a content, from the elements of a clean set.
use Rattle.std.proofs.Common.{◌≡◌, ◌∙◌, ap, sym, subst, refl, ℕ, ◌≤◌, true, false, List, arith}
use Rattle.std.specs.Prelude.{◌||◌, bytes_eq, not}
use Rattle.std.specs.List.{Contains, filter}
use Rattle.std.specs.Option.{option_map_or}
use Rattle.std.proofs.lemmas.Bool.{and_from, and_parts}
use Rattle.ix_base.specs.declared.content.Content.{Content}
use Rattle.ix_base.specs.declared.content.Item.{Item}
use Rattle.ix_base.specs.declared.kind.Kind.{Kind}
use Rattle.ix_base.specs.declared.kind.Kind.TheVariants as kind
use Rattle.ix_base.specs.Asks.{asks}
use Rattle.ix_base.specs.Facts.{facts_of}
use Rattle.ix_base.specs.Ids.{id_of}
use Rattle.ix_base.specs.Kinds as kinds
use Rattle.ix_base.specs.Kinds.{kind_of, same_kind}
use Rattle.ix_base.specs.LinkRules.{target_of}
use Rattle.ix_base.specs.LocatedElements.{Located, is_fact, is_item, is_tuple}
use Rattle.ix_base.specs.Membership.{deepest}
use Rattle.instance_lines.specs.Arrangement.{arranged, by_line}
use Rattle.instance_lines.specs.Canonical.{content_spaces}
use Rattle.instance_lines.specs.Elements.{fact_markup}
use Rattle.instance_lines.specs.Holdings.{fact_ids, items_in}
use Rattle.targets.specs.ValidSets.{IsClean}
use Rattle.target_contents.specs.Contents.{IsContent, SaysItem, is_item_of, is_outer}
use Rattle.target_contents.specs.PageSet.{PageSet, base_at, elements}
use Rattle.targets.proofs.CleanLaws.{told, told-all, told-most, told-of}
use Rattle.targets.proofs.OrderedFacts.{ids-ordered, items-ordered}
use Rattle.targets.proofs.TotalLaws.{total, when, when-has}
use Rattle.targets.proofs.WalkLaws.{ids-total, items-total}

-- items are the facts that are no tuples
item-kind : (k : Kind) → (same_kind k kind.NonNumeric || same_kind k kind.NonFraction || same_kind k kind.Fraction) ≡ true
    → (kinds.is_fact k ≡ true) × (same_kind k kind.Tuple ≡ false)
item-kind kind.NonNumeric h = (refl, refl)
item-kind kind.NonFraction h = (refl, refl)
item-kind kind.Fraction h = (refl, refl)
item-kind k h = absurd (cc)

kind-item : (k : Kind) → kinds.is_fact k ≡ true → not (same_kind k kind.Tuple) ≡ true
    → (same_kind k kind.NonNumeric || same_kind k kind.NonFraction || same_kind k kind.Fraction) ≡ true
kind-item kind.NonNumeric h t = refl
kind-item kind.NonFraction h t = refl
kind-item kind.Fraction h t = refl
kind-item kind.Tuple h t = absurd (cc)
kind-item k h t = absurd (cc)

-- an item has the id of its element
says-id : (bases : Located → List ℕ) (es : List Located) (e : Located) (i : Item) → SaysItem bases es e i → i.id ≡ id_of e
says-id bases es e i said = ap (λ (j : Item). j.id) said.1

module _ (s : PageSet) (clean : IsClean s) (target : List ℕ) (c : Content) (is : IsContent (base_at s) (elements s) target c) where
  items-sum : (v : Item → ℕ) (u : Located → ℕ) → ((e : Located) (i : Item) → SaysItem (base_at s) (elements s) e i → v i ≡ u e)
      → total v (items_in (facts_of c.facts)) ≡ total (λ e. when (not (is_tuple e)) (u e)) (told s clean target)
  unfolding arranged
  items-sum v u said =
      let g = is.0 in
      ap (λ (x : Content). total v (items_in (facts_of x.facts))) is.2
      ∙ items-ordered v (by_line (fact_markup (content_spaces g (facts_of g.facts)))) g.facts
      ∙ items-total (SaysItem (base_at s) (elements s)) (elements s) v u said deepest (filter (is_outer (asks (elements s)) target) (elements s)) (facts_of g.facts) is.1.facts

  -- what the items of the target say is said in the content
  pub item-there : (v : Item → ℕ) (u : Located → ℕ) → ((e : Located) (i : Item) → SaysItem (base_at s) (elements s) e i → v i ≡ u e)
      → (f : Located) → Contains (elements s) f → is_item_of target f ≡ true → u f ≤ total v (items_in (facts_of c.facts))
  item-there v u said f at item =
      let parts = and_parts (is_item f) (bytes_eq target (target_of f)) item in
      let fact = item-kind (kind_of f.placed) parts.0 in
      let w : Located → ℕ = λ e. when (not (is_tuple e)) (u e) in
      let here : w f ≡ u f = ap (λ b. when (not b) (u f)) fact.1 in
      let there : w f ≤ total w (told s clean target) = told-all s clean target w f at fact.0 parts.1 in
      let same : total v (items_in (facts_of c.facts)) ≡ total w (told s clean target) = items-sum v u said in
      omega arith

  -- and nothing else
  pub item-back : (v : Item → ℕ) (u : Located → ℕ) → ((e : Located) (i : Item) → SaysItem (base_at s) (elements s) e i → v i ≡ u e)
      → 1 ≤ total v (items_in (facts_of c.facts)) → (f : Located) × Contains (elements s) f × (is_item_of target f ≡ true) × (1 ≤ u f)
  item-back v u said h =
      let w : Located → ℕ = λ e. when (not (is_tuple e)) (u e) in
      let found = told-of s clean target w (subst (λ n. 1 ≤ n) (items-sum v u said) h) in
      let f = found.0 in
      let some = when-has (not (is_tuple f)) (u f) found.4 in
      (f, found.1, and_from (is_item f) (bytes_eq target (target_of f)) (kind-item (kind_of f.placed) found.2 some.0) found.3, some.1)

  pub ids-sum : (w : List ℕ → ℕ) → total w (fact_ids (facts_of c.facts)) ≡ total (λ e. option_map_or w (id_of e) 0) (told s clean target)
  unfolding arranged
  ids-sum w =
      let g = is.0 in
      ap (λ (x : Content). total w (fact_ids (facts_of x.facts))) is.2
      ∙ ids-ordered w (by_line (fact_markup (content_spaces g (facts_of g.facts)))) g.facts
      ∙ ids-total (SaysItem (base_at s) (elements s)) (elements s) (says-id (base_at s) (elements s)) w deepest
      (filter (is_outer (asks (elements s)) target) (elements s)) (facts_of g.facts) is.1.facts

  -- the ids of facts are those of elements, each as often at most
  pub ids-most : (w : List ℕ → ℕ) → total w (fact_ids (facts_of c.facts)) ≤ total (λ e. when (is_fact e) (option_map_or w (id_of e) 0)) (elements s)
  ids-most w =
      let most = told-most s clean target (λ e. option_map_or w (id_of e) 0) in
      subst (λ n. n ≤ total (λ e. when (is_fact e) (option_map_or w (id_of e) 0)) (elements s)) (sym (ids-sum w)) most
