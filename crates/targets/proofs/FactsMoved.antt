-- The facts that elements are, under other page numbers and in another order of the elements.
use Rattle.std.proofs.Common.{◌≡◌, refl, subst, sym, ℕ, zero, suc, List, [], ◌∷◌, map}
use Rattle.std.specs.Prelude.{◌==◌}
use Rattle.ix_base.specs.declared.content.Item.{Item}
use Rattle.ix_base.specs.Facts.{Facts, none, item, tuple}
use Rattle.ix_base.specs.LocatedElements.{Located}
use Rattle.ix_base.specs.Membership.{members}
use Rattle.id_table.specs.Renumbering.{moved}
use Rattle.id_table.proofs.Renumbered.{members-moved}
use Rattle.target_contents.specs.TargetFacts.{AreFacts, members_read, one_less}

module _ (r : ℕ → ℕ) (apart : (x y : ℕ) → (r x == r y) ≡ (x == y)) (Says Says' : Located → Item → Type 0) (says : (e : Located) (i : Item) → Says e i → Says' (moved r e) i) where
  read-moved : (n : ℕ) (all : List Located) (t : Located) → members_read n (map (moved r) all) (moved r t) ≡ map (moved r) (members_read n all t)
  read-moved zero all t = refl
  read-moved (suc n) all t = members-moved r apart all t

  pub facts-moved : (all : List Located) (n : ℕ) (es : List Located) (fs : Facts) → AreFacts Says all n es fs → AreFacts Says' (map (moved r) all) n (map (moved r) es) fs
  facts-moved all n [] none h = tt
  facts-moved all n [] (item i rest) h = absurd h
  facts-moved all n [] (tuple name id nil within rest) h = absurd h
  facts-moved all n (e ∷ es) none h = absurd h
  facts-moved all n (e ∷ es) (item i rest) h = (h.0, says e i h.1, facts-moved all n es rest h.2)
  facts-moved all n (e ∷ es) (tuple name id nil within rest) h = (
    h.0,
    h.1,
    h.2,
    h.3,
    subst (λ ms. AreFacts Says' (map (moved r) all) (one_less n) ms within) (sym (read-moved n all e))
        (facts-moved all (one_less n) (members_read n all e) within h.4),
    facts-moved all n es rest h.5,
  )

-- tuples with the same members hold the same facts
module _ (Says : Located → Item → Type 0) (xs ys : List Located) (same : (t : Located) → members xs t ≡ members ys t) where
  read-same : (n : ℕ) (t : Located) → members_read n xs t ≡ members_read n ys t
  read-same zero t = refl
  read-same (suc n) t = same t

  pub facts-same : (n : ℕ) (es : List Located) (fs : Facts) → AreFacts Says xs n es fs → AreFacts Says ys n es fs
  facts-same n [] none h = tt
  facts-same n [] (item i rest) h = absurd h
  facts-same n [] (tuple name id nil within rest) h = absurd h
  facts-same n (e ∷ es) none h = absurd h
  facts-same n (e ∷ es) (item i rest) h = (h.0, h.1, facts-same n es rest h.2)
  facts-same n (e ∷ es) (tuple name id nil within rest) h = (
    h.0,
    h.1,
    h.2,
    h.3,
    subst (λ ms. AreFacts Says ys (one_less n) ms within) (read-same n e) (facts-same (one_less n) (members_read n xs e) within h.4),
    facts-same n es rest h.5,
  )
