-- Members in strict order.
use Rattle.std.specs.Prelude.{◌≡◌, true, All, AllPairs, List, is_some}
use Rattle.std.specs.declared.cmp.Ordering.TheVariants.{Less}
use Rattle.ix_base.specs.LocatedElements.{Located}
use Rattle.ix_base.specs.Membership.{order_of}
use Rattle.ix_base.specs.Orders.{order_cmp}

-- each of these has an order, and that of each is less than those of all behind it
pub record RiseStrictly (es : List Located) : Type 0 where
  pub ordered : All (λ e. is_some (order_of e) ≡ true) es
  pub rising : AllPairs (λ x y. order_cmp (order_of x) (order_of y) ≡ Less) es
