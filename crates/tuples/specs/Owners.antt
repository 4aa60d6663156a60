-- Owners above owners.
use Rattle.std.specs.Prelude.{ℕ, zero, suc, Bool, true, false, Option, Some, None}
use Rattle.ix_base.specs.Asks.{Asks}
use Rattle.ix_base.specs.LocatedElements.{Located}
use Rattle.ix_base.specs.Membership.{owner}

-- so many owners stand above, from this one on
abbrev pub are_above : Asks Located → ℕ → Option Located → Bool
are_above a zero o = true
are_above a (suc n) None = false
are_above a (suc n) (Some o) = are_above a n (owner a o)
