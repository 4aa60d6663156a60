-- Orders that are numbers.
use Rattle.std.specs.Prelude.{ℕ, Bool, true, not, ◌||◌, List, Option, Some, None}
use Rattle.ix_base.specs.Forms.{is_decimal}
use Rattle.ix_base.specs.LocatedElements.{Located, is_fact}
use Rattle.ix_base.specs.Membership.{order_of}

-- an order, where there is one, is a decimal
abbrev pub is_order_number : Option (List ℕ) → Bool
is_order_number None = true
is_order_number (Some n) = is_decimal n

-- the order of a fact is one
abbrev pub fits : Located → Bool
fits e = not (is_fact e) || is_order_number (order_of e)
