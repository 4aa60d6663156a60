use Rattle.std.proofs.Common.{◌≡◌, take, true}
use Rattle.std.specs.List.{list_all}
use Rattle.ix_base.specs.Ids.{stands_for}
use Rattle.id_table.specs.Model.{asked}
use Rattle.target_contents.proofs.links.each_stands.Given as goal

-- for each of the ids before here one stands
abbrev pub invariant-loop-id : goal.invariant-loop-id
invariant-loop-id l = list_all (λ id. stands_for l.kind (asked l.index) id.now) (take l.id-index l.ids) ≡ true
