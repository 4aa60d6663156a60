use Rattle.std.proofs.Common.{◌≡◌, ◌++◌, take}
use Rattle.std.specs.List.{flat_map}
use Rattle.ix_base.specs.declared.rule.Rule.TheVariants.{L14}
use Rattle.ix_base.specs.LinkRules.{broken_at}
use Rattle.id_table.specs.Model.{asked}
use Rattle.id_table.specs.Tables.{all_located}
use Rattle.target_contents.proofs.links.add_schemaless.Given as goal

-- those before here are added
abbrev pub invariant-loop-spot : goal.invariant-loop-spot
invariant-loop-spot l = l.found ≡ l.initial.found ++ flat_map (broken_at (asked l.index) L14) (all_located (take l.spot-index l.spot-items))
