-- The ids and the items of facts are those of the elements that the facts stand for.
use Rattle.std.proofs.Common.{◌≡◌, ◌∙◌, ap, sym, refl, ℕ, zero, suc, ◌+◌, true, false, cond, List, [], ◌∷◌, ◌++◌, Option, Some, None, arith}
use Rattle.std.specs.Prelude.{not}
use Rattle.std.specs.Option.{option_map_or}
use Rattle.std.proofs.lemmas.List.Concat.{flat_map-cons}
use Rattle.ix_base.specs.declared.content.Item.{Item}
use Rattle.ix_base.specs.Facts.{Facts, none, item, tuple}
use Rattle.ix_base.specs.Ids.{id_of}
use Rattle.ix_base.specs.LocatedElements.{Located, is_tuple}
use Rattle.ix_base.specs.Membership.{members}
use Rattle.instance_lines.specs.Holdings.{fact_ids, items_in}
use Rattle.instance_lines.specs.Lists.{of_option}
use Rattle.target_contents.specs.TargetFacts.{AreFacts, members_read, one_less}
use Rattle.targets.proofs.ForestLaws.{walk}
use Rattle.targets.proofs.TotalLaws.{total, total-append, when}

module _ (w : Located → ℕ) (all : List Located) where
  walk-none : (n : ℕ) → total w (walk n all []) ≡ 0
  walk-none zero = refl
  walk-none (suc n) = refl

  walk-first : (n : ℕ) (e : Located) (es : List Located) → walk (suc n) all (e ∷ es) ≡ (e ∷ cond (is_tuple e) (walk n all (members all e)) []) ++ walk (suc n) all es
  walk-first n e es = flat_map-cons (λ x. x ∷ cond (is_tuple x) (walk n all (members all x)) []) e es

  walk-item : (n : ℕ) (e : Located) (es : List Located) → is_tuple e ≡ false → total w (walk n all (e ∷ es)) ≡ w e + total w (walk n all es)
  walk-item zero e es h = refl
  walk-item (suc n) e es h =
      ap (total w) (walk-first n e es ∙ ap (λ b. (e ∷ cond b (walk n all (members all e)) []) ++ walk (suc n) all es) h)

  walk-tuple : (n : ℕ) (e : Located) (es : List Located) → is_tuple e ≡ true
      → total w (walk n all (e ∷ es)) ≡ w e + (total w (walk (one_less n) all (members_read n all e)) + total w (walk n all es))
  walk-tuple zero e es h = omega arith
  walk-tuple (suc n) e es h =
      ap (total w) (walk-first n e es ∙ ap (λ b. (e ∷ cond b (walk n all (members all e)) []) ++ walk (suc n) all es) h)
      ∙ ap (λ k. w e + k) (total-append w (walk n all (members all e)) (walk (suc n) all es))

option-total : (w : List ℕ → ℕ) (o : Option (List ℕ)) → total w (of_option o) ≡ option_map_or w o 0
option-total w None = refl
option-total w (Some x) = omega arith

module _ (Says : Located → Item → Type 0) (all : List Located) where
  -- the ids of facts
  pub ids-total : ((e : Located) (i : Item) → Says e i → i.id ≡ id_of e) → (w : List ℕ → ℕ) (n : ℕ) (es : List Located) (facts : Facts)
      → AreFacts Says all n es facts → total w (fact_ids facts) ≡ total (λ e. option_map_or w (id_of e) 0) (walk n all es)
  ids-total said w n [] none are = sym (walk-none (λ e. option_map_or w (id_of e) 0) all n)
  ids-total said w n [] (item i rest) are = absurd are
  ids-total said w n [] (tuple name id nil within rest) are = absurd are
  ids-total said w n (e ∷ es) none are = absurd are
  ids-total said w n (e ∷ es) (item i rest) are =
      let u : Located → ℕ = λ x. option_map_or w (id_of x) 0 in
      let later : total w (fact_ids rest) ≡ total u (walk n all es) = ids-total said w n es rest are.2 in
      let here : total w (of_option i.id) ≡ u e = option-total w i.id ∙ ap (λ o. option_map_or w o 0) (said e i are.1) in
      let both : total w (of_option i.id ++ fact_ids rest) ≡ total w (of_option i.id) + total w (fact_ids rest) =
      total-append w (of_option i.id) (fact_ids rest) in
      let split : total u (walk n all (e ∷ es)) ≡ u e + total u (walk n all es) = walk-item u all n e es are.0 in
      omega arith
  ids-total said w n (e ∷ es) (tuple name id nil within rest) are =
      let u : Located → ℕ = λ x. option_map_or w (id_of x) 0 in
      let inner : total w (fact_ids within) ≡ total u (walk (one_less n) all (members_read n all e)) =
      ids-total said w (one_less n) (members_read n all e) within are.4 in
      let later : total w (fact_ids rest) ≡ total u (walk n all es) = ids-total said w n es rest are.5 in
      let here : total w (of_option id) ≡ u e = option-total w id ∙ ap (λ o. option_map_or w o 0) are.2 in
      let both : total w (of_option id ++ (fact_ids within ++ fact_ids rest)) ≡ total w (of_option id) + total w (fact_ids within ++ fact_ids rest) =
      total-append w (of_option id) (fact_ids within ++ fact_ids rest) in
      let behind : total w (fact_ids within ++ fact_ids rest) ≡ total w (fact_ids within) + total w (fact_ids rest) =
      total-append w (fact_ids within) (fact_ids rest) in
      let split : total u (walk n all (e ∷ es)) ≡ u e + (total u (walk (one_less n) all (members_read n all e)) + total u (walk n all es)) =
      walk-tuple u all n e es are.0 in
      omega arith

  -- the items
  pub items-total : (v : Item → ℕ) (u : Located → ℕ) → ((e : Located) (i : Item) → Says e i → v i ≡ u e) → (n : ℕ) (es : List Located) (facts : Facts)
      → AreFacts Says all n es facts → total v (items_in facts) ≡ total (λ e. when (not (is_tuple e)) (u e)) (walk n all es)
  items-total v u said n [] none are = sym (walk-none (λ e. when (not (is_tuple e)) (u e)) all n)
  items-total v u said n [] (item i rest) are = absurd are
  items-total v u said n [] (tuple name id nil within rest) are = absurd are
  items-total v u said n (e ∷ es) none are = absurd are
  items-total v u said n (e ∷ es) (item i rest) are =
      let t : Located → ℕ = λ x. when (not (is_tuple x)) (u x) in
      let later : total v (items_in rest) ≡ total t (walk n all es) = items-total v u said n es rest are.2 in
      let here : v i ≡ t e = said e i are.1 ∙ sym (ap (λ b. when (not b) (u e)) are.0) in
      let split : total t (walk n all (e ∷ es)) ≡ t e + total t (walk n all es) = walk-item t all n e es are.0 in
      omega arith
  items-total v u said n (e ∷ es) (tuple name id nil within rest) are =
      let t : Located → ℕ = λ x. when (not (is_tuple x)) (u x) in
      let inner : total v (items_in within) ≡ total t (walk (one_less n) all (members_read n all e)) =
      items-total v u said (one_less n) (members_read n all e) within are.4 in
      let later : total v (items_in rest) ≡ total t (walk n all es) = items-total v u said n es rest are.5 in
      let here : t e ≡ 0 = ap (λ b. when (not b) (u e)) are.0 in
      let both : total v (items_in within ++ items_in rest) ≡ total v (items_in within) + total v (items_in rest) =
      total-append v (items_in within) (items_in rest) in
      let split : total t (walk n all (e ∷ es)) ≡ t e + (total t (walk (one_less n) all (members_read n all e)) + total t (walk n all es)) =
      walk-tuple t all n e es are.0 in
      omega arith
