-- What stands around markup.
use Rattle.std.specs.Prelude.{◌≡◌, ℕ, List, true, Option, option_map}
use Rattle.ix_base.specs.Spaces.{AreNumbered, IsOuter, Space}
use Rattle.escape_text.specs.declared.marked_text.Around.{Around}

-- the base, where links are resolved
abbrev pub base_of : Around → Option (List ℕ)
base_of a = option_map (λ b. b.now) a.base

-- the numbers that are compared with each other tell whether namespaces are equal
pub record IsWithin (a : Around) (spaces : List Space) : Type 0 where
  pub inner : a.by_number ≡ true → AreNumbered spaces
  pub outer : IsOuter a.outer spaces
