use Rattle.std.proofs.Common.{length}
use Rattle.ix_base.specs.Elements.{path_above}
use Rattle.scopes.proofs.base.+own_along.Given as goal

-- how many elements there are from the root down
abbrev pub decreases-own_along : goal.decreases-own_along
decreases-own_along l = length (path_above l.spot)
