-- Elements of a list, one by one.
use Rattle.std.specs.Prelude.{ℕ, ◌<◌, List, Contains, All, length, map}
use Rattle.std.specs.Borrow.{Bor}
use Rattle.ix_base.specs.declared.tree.Spot.{Spot}
use Rattle.ix_base.specs.LocatedElements.{Located, located}

-- each spot is one of these elements
abbrev pub AreAmong : List Located → List (Bor Spot) → Type 0
AreAmong es spots = All (λ s. Contains es (located s.now)) spots

-- each spot is of a page that has a base
abbrev pub AreOnPages : List (List ℕ) → List (Bor Spot) → Type 0
AreOnPages bases spots = All (λ s. (located s.now).page < length bases) spots

-- what references point to
abbrev pub values_of : {X : Type 0} → List (Bor X) → List X
values_of xs = map (λ x. x.now) xs
