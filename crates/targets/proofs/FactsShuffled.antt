-- The facts of elements in another order: the same facts, in that order.
use Rattle.std.proofs.Common.{◌≡◌, ◌∙◌, ap, refl, sym, subst, ℕ, List, [], ◌∷◌, ◌++◌, rules}
use Rattle.std.specs.List.Sorted.{IsPermutation}
use Rattle.std.proofs.lemmas.List.Sorted.{IsPermutation-append, IsPermutation-append_comm, IsPermutation-refl, IsPermutation-trans, IsPermutation-cons}
use Rattle.ix_base.specs.declared.content.Fact.{Fact, out-Fact, the_lemmas}
use Rattle.ix_base.specs.declared.content.Fact.TheOpen.{Fact-F}
use Rattle.ix_base.specs.declared.content.Fact.TheVariants as fact
use Rattle.ix_base.specs.declared.content.Item.{Item}
use Rattle.ix_base.specs.declared.content.Tuple.{Tuple}
use Rattle.ix_base.specs.Facts.{Facts, before, facts_of, item, tuple}
use Rattle.ix_base.specs.LocatedElements.{Located}
use Rattle.ix_base.proofs.ExchangeLemmas.{by_exchanges}
use Rattle.ix_base.proofs.FactLaws.{before-Item, before-Tuple}
use Rattle.target_contents.specs.TargetFacts.{AreFacts, IsFactOf}

module _ (Says : Located → Item → Type 0) (all : List Located) (n : ℕ) where
  invert-by : (e : Located) (es : List Located) (f : Fact) (rest : Facts) (o : Fact-F Fact Tuple) → out-Fact f ≡ o
      → AreFacts Says all n (e ∷ es) (before f rest) → IsFactOf Says all n e f × AreFacts Says all n es rest
  invert-by e es f rest (Fact-F.Item i) k h =
      let same : f ≡ fact.Item i = search (rules, the_lemmas) in
      let is : (r : Facts) → before f r ≡ item i r = λ r. ap (λ g. before g r) same ∙ before-Item i r in
      let it : AreFacts Says all n (e ∷ es) (item i rest) = subst (AreFacts Says all n (e ∷ es)) (is rest) h in
      (λ fs r m. subst (AreFacts Says all n (e ∷ fs)) (sym (is r)) (it.0, it.1, m), it.2)
  invert-by e es f rest (Fact-F.Tuple t) k h =
      let same : f ≡ fact.Tuple t = search (rules, the_lemmas) in
      let is : (r : Facts) → before f r ≡ tuple t.name t.id t.nil (facts_of t.members) r = λ r. ap (λ g. before g r) same ∙ before-Tuple t r in
      let it : AreFacts Says all n (e ∷ es) (tuple t.name t.id t.nil (facts_of t.members) rest) = subst (AreFacts Says all n (e ∷ es)) (is rest) h in
      (λ fs r m. subst (AreFacts Says all n (e ∷ fs)) (sym (is r)) (it.0, it.1, it.2, it.3, it.4, m), it.5)

  -- the first fact is that of the first element
  invert : (e : Located) (es : List Located) (f : Fact) (fs : List Fact) → AreFacts Says all n (e ∷ es) (facts_of (f ∷ fs))
      → IsFactOf Says all n e f × AreFacts Says all n es (facts_of fs)
  invert e es f fs h = invert-by e es f (facts_of fs) (out-Fact f) refl h

  -- facts of these elements, which are those facts in another order
  abbrev Shuffles : List Fact → List Located → Type 0
  Shuffles fs es = (gs : List Fact) × AreFacts Says all n es (facts_of gs) × IsPermutation fs gs

  exchange : (front back : List Located) (a b : Located) (gs : List Fact) → AreFacts Says all n (front ++ a ∷ b ∷ back) (facts_of gs) → Shuffles gs (front ++ b ∷ a ∷ back)
  exchange [] back a b [] h = absurd h
  exchange [] back a b (f ∷ []) h = absurd ((invert a (b ∷ back) f [] h).1)
  exchange [] back a b (f ∷ g ∷ gs) h =
      let x = invert a (b ∷ back) f (g ∷ gs) h in
      let y = invert b back g gs x.1 in (
        g ∷ f ∷ gs,
        y.0 (a ∷ back) (facts_of (f ∷ gs)) (x.0 back (facts_of gs) y.1),
        IsPermutation-append (f ∷ g ∷ []) (g ∷ f ∷ []) gs gs (IsPermutation-append_comm (f ∷ []) (g ∷ [])) (IsPermutation-refl gs),
      )
  exchange (e ∷ front) back a b [] h = absurd h
  exchange (e ∷ front) back a b (f ∷ gs) h =
      let x = invert e (front ++ a ∷ b ∷ back) f gs h in
      let rest = exchange front back a b gs x.1 in
      (f ∷ rest.0, x.0 (front ++ b ∷ a ∷ back) (facts_of rest.0) rest.1, IsPermutation-cons f gs rest.0 rest.2)

  pub facts-shuffled : (xs ys : List Located) → IsPermutation xs ys → (fs : List Fact) → AreFacts Says all n xs (facts_of fs) → Shuffles fs ys
  facts-shuffled xs ys m fs h = by_exchanges (Shuffles fs)
      (λ front back a b s. let next = exchange front back a b s.0 s.1 in (next.0, next.1, IsPermutation-trans fs s.0 next.0 s.2 next.2))
      xs ys m (fs, h, IsPermutation-refl fs)
