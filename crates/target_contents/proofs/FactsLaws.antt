-- The facts of elements, one by one.
use Rattle.std.proofs.Common.{◌≡◌, ◌∙◌, ℕ, zero, suc, Bool, true, false, List, [], ◌∷◌, ◌++◌, Option, ap, map, refl, subst, sym}
use Rattle.ix_base.specs.declared.content.Fact.{Fact}
use Rattle.ix_base.specs.declared.content.Fact.TheVariants as fact
use Rattle.ix_base.specs.declared.content.Item.{Item}
use Rattle.ix_base.specs.declared.content.OwnName.{OwnName}
use Rattle.ix_base.specs.declared.content.Tuple.{Tuple}
use Rattle.ix_base.specs.Facts.{Facts, before, facts_of, item, joined, none, tuple}
use Rattle.ix_base.specs.Ids.{id_of}
use Rattle.ix_base.specs.LocatedElements.{Located, is_nil, is_tuple}
use Rattle.ix_base.specs.Membership.{fact_by, fact_name, members, within}
use Rattle.ix_base.proofs.FactLaws.{before-Item, before-Tuple}
use Rattle.target_contents.specs.TargetFacts.{AreFacts, IsFactOf, members_read, one_less}

-- to each element its fact
abbrev pub Each : (Located → Fact → Type 0) → List Located → List Fact → Type 0
Each Is [] [] = Unit {0}
Each Is (e ∷ es) (f ∷ fs) = Is e f × Each Is es fs
Each Is es fs = ⊥

pub each-push : (Is : Located → Fact → Type 0) (es : List Located) (fs : List Fact) (e : Located) (f : Fact)
    → Each Is es fs → Is e f → Each Is (es ++ e ∷ []) (fs ++ f ∷ [])
each-push Is [] [] e f h i = (i, tt)
each-push Is [] (g ∷ fs) e f h i = absurd h
each-push Is (x ∷ es) [] e f h i = absurd h
each-push Is (x ∷ es) (g ∷ fs) e f h i = (h.0, each-push Is es fs e f h.1 i)

pub facts-each : (Says : Located → Item → Type 0) (all : List Located) (n : ℕ) (es : List Located) (fs : List Fact)
    → Each (IsFactOf Says all n) es fs → AreFacts Says all n es (facts_of fs)
facts-each Says all n [] [] h = tt
facts-each Says all n [] (f ∷ fs) h = absurd h
facts-each Says all n (e ∷ es) [] h = absurd h
facts-each Says all n (e ∷ es) (f ∷ fs) h = h.0 es (facts_of fs) (facts-each Says all n es fs h.1)

-- an item is the fact of its element
pub item-fact : (Says : Located → Item → Type 0) (all : List Located) (n : ℕ) (e : Located) (i : Item) → is_tuple e ≡ false → Says e i
    → IsFactOf Says all n e (fact.Item i)
item-fact Says all n e i t s es rest h = subst (AreFacts Says all n (e ∷ es)) (sym (before-Item i rest)) (t, s, h)

-- so is a tuple with its members within
pub tuple-fact : (Says : Located → Item → Type 0) (all : List Located) (n : ℕ) (e : Located) (f : Fact) (within : Facts) → is_tuple e ≡ true
    → ((rest : Facts) → before f rest ≡ tuple (fact_name e) (id_of e) (is_nil e) within rest)
    → AreFacts Says all (one_less n) (members_read n all e) within → IsFactOf Says all n e f
tuple-fact Says all n e f within t b w es rest h = subst (AreFacts Says all n (e ∷ es)) (sym (b rest)) (t, refl, refl, refl, w, h)

-- the members of a tuple that is read
pub read-less : (Says : Located → Item → Type 0) (all : List Located) (n k : ℕ) (e : Located) (es : List Located) (facts : Facts) → n ≡ suc k
    → es ≡ members all e → AreFacts Says all k es facts → AreFacts Says all (one_less n) (members_read n all e) facts
read-less Says all n k e es facts d m h =
    subst (λ j. AreFacts Says all (one_less j) (members_read j all e) facts) (sym d) (subst (λ xs. AreFacts Says all k xs facts) m h)

-- a tuple in front of further facts, from what its parts are
pub tuple-before : (t : Tuple) (name : OwnName) (id : Option (List ℕ)) (nil : Bool) (members : List Fact) → t.name ≡ name → t.id ≡ id → t.nil ≡ nil → t.members ≡ members
    → (rest : Facts) → before (fact.Tuple t) rest ≡ tuple name id nil (facts_of members) rest
tuple-before t name id nil members n i b m rest =
    before-Tuple t rest ∙ ap (λ x. tuple x t.id t.nil (facts_of t.members) rest) n ∙ ap (λ x. tuple name x t.nil (facts_of t.members) rest) i
    ∙ ap (λ x. tuple name id x (facts_of t.members) rest) b ∙ ap (λ (x : List Fact). tuple name id nil (facts_of x) rest) m

-- The facts, where a function tells what items say.
module _ (Says : Located → Item → Type 0) (items : Located → Item) (one : (e : Located) (i : Item) → is_tuple e ≡ false → Says e i → i ≡ items e)
    (all : List Located) where
  abbrev given : ℕ → Located → Facts → Facts
  given n e = fact_by (is_tuple e) items (within items all n) e

  inside : (n : ℕ) (t : Located) → joined (map (given (one_less n)) (members_read n all t)) ≡ within items all n t
  inside zero t = refl
  inside (suc n) t = refl

  pub facts-given : (n : ℕ) (es : List Located) (facts : Facts) → AreFacts Says all n es facts → facts ≡ joined (map (given n) es)
  facts-given n [] none h = refl
  facts-given n [] (item i rest) h = absurd h
  facts-given n [] (tuple name id nil members rest) h = absurd h
  facts-given n (e ∷ es) none h = absurd h
  facts-given n (e ∷ es) (item i rest) h =
      let more = facts-given n es rest h.2 in
      (λ j. item (one e i h.0 h.1 j) (more j)) ∙ sym (ap (λ b. fact_by b items (within items all n) e (joined (map (given n) es))) h.0)
  facts-given n (e ∷ es) (tuple name id nil members rest) h =
      let here = facts-given (one_less n) (members_read n all e) members h.4 ∙ inside n e in
      let more = facts-given n es rest h.5 in
      (λ j. tuple (h.1 j) (h.2 j) (h.3 j) (here j) (more j))
      ∙ sym (ap (λ b. fact_by b items (within items all n) e (joined (map (given n) es))) h.0)
