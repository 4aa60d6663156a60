-- The members of a list in order, each once.
use Rattle.std.specs.Prelude.{List, [], ◌∷◌, Contains}
use Rattle.std.specs.declared.cmp.Ordering.{Ordering}
use Rattle.std.specs.declared.cmp.Ordering.TheVariants.{Less, Equal, Greater}

-- both have the same members, however often and in whatever order
pub record SameMembers {X : Type 0} (xs ys : List X) : Type 0 where
  pub there : (x : X) → Contains xs x → Contains ys x
  pub back : (x : X) → Contains ys x → Contains xs x

-- x against the first y of a list: x in front of it, x not again, or x behind it
abbrev pub put_by : {X : Type 0} → Ordering → X → X → List X → List X → List X
put_by Less x y ys behind = x ∷ y ∷ ys
put_by Equal x y ys behind = y ∷ ys
put_by Greater x y ys behind = y ∷ behind

-- x at its place in a list that is in order, unless it is there
abbrev pub put : {X : Type 0} → (X → X → Ordering) → X → List X → List X
put R x [] = x ∷ []
put R x (y ∷ ys) = put_by (R x y) x y ys (put R x ys)

-- the members by rising order, each once
unfoldable pub in_order : {X : Type 0} → (X → X → Ordering) → List X → List X
in_order R [] = []
in_order R (x ∷ xs) = put R x (in_order R xs)
