use Rattle.std.proofs.Common.{◌≡◌, take, None}
use Rattle.std.specs.List.{find}
use Rattle.ix_base.specs.LocatedElements.{is_fact}
use Rattle.id_table.specs.Tables.{all_located}
use Rattle.footnotes.proofs.rules.first_fact.Given as goal

-- no element before here is a fact
abbrev pub invariant-loop-spot : goal.invariant-loop-spot
invariant-loop-spot l = find is_fact (all_located (take l.spot-index l.spots)) ≡ None
