-- The elements with which chains begin, by place.
use Rattle.std.specs.Prelude.{ℕ, Bool, ◌&&◌, List, [], ◌∷◌, Option, Some, None, if◌then◌else◌}
use Rattle.ix_base.specs.LinkRules.{is_at}
use Rattle.ix_base.specs.LocatedElements.{Located, is_start}

-- a chain begins with the element, and it is at this place
abbrev pub starts_at : ℕ → ℕ → Located → Bool
starts_at page offset x = is_start x && is_at page offset x

-- the first element at this place with which a chain begins
abbrev pub first_start : ℕ → ℕ → List Located → Option Located
first_start page offset [] = None
first_start page offset (x ∷ xs) = if starts_at page offset x then Some x else first_start page offset xs
