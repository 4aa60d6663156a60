-- The facts that some elements are (Inline XBRL 1.1, tuple): an item is what it says, and a tuple holds the facts that its
-- members are.
use Rattle.std.specs.Prelude.{◌≡◌, ℕ, zero, suc, true, false, List, [], ◌∷◌}
use Rattle.ix_base.specs.declared.content.Fact.{Fact}
use Rattle.ix_base.specs.declared.content.Item.{Item}
use Rattle.ix_base.specs.Facts.{Facts, none, item, tuple, before}
use Rattle.ix_base.specs.Ids.{id_of}
use Rattle.ix_base.specs.LocatedElements.{Located, is_nil, is_tuple}
use Rattle.ix_base.specs.Membership.{fact_name, members}

-- one less, where there is one
abbrev pub one_less : ℕ → ℕ
one_less zero = zero
one_less (suc n) = n

-- the members of a tuple, where tuples are read so deep; a tuple below that is given without members
abbrev pub members_read : ℕ → List Located → Located → List Located
members_read zero es t = []
members_read (suc n) es t = members es t

-- These facts are those of these elements, in order, one for each. Within a tuple, tuples are read to n tuples deep.
abbrev pub AreFacts : (Says : Located → Item → Type 0) → (all : List Located) → ℕ → List Located → Facts → Type 0
AreFacts Says all n [] none = Unit {0}
AreFacts Says all n (e ∷ es) (item i rest) = (is_tuple e ≡ false) × Says e i × AreFacts Says all n es rest
AreFacts Says all n (e ∷ es) (tuple name id nil within rest) =
    (is_tuple e ≡ true) × (name ≡ fact_name e) × (id ≡ id_of e) × (nil ≡ is_nil e)
    × AreFacts Says all (one_less n) (members_read n all e) within × AreFacts Says all n es rest
AreFacts Says all n es facts = ⊥

-- a fact is that of an element: it stands in front of the facts of any further ones
abbrev pub IsFactOf : (Says : Located → Item → Type 0) → (all : List Located) → ℕ → Located → Fact → Type 0
IsFactOf Says all n e f = (es : List Located) (rest : Facts) → AreFacts Says all n es rest → AreFacts Says all n (e ∷ es) (before f rest)
