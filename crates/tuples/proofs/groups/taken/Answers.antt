use Rattle.std.proofs.Common.{Vec}
use Rattle.std.specs.Global.{Global}
use Rattle.std.specs.Prelude.{◌&&◌, ◌==◌}
use Rattle.indexmap.specs.IndexMap.{get_by}
use Rattle.tuples.specs.declared.fact.Fact.{Fact}
use Rattle.id_table.specs.Slices.{is_key}
use Rattle.tuples.proofs.GroupLaws.{took-out}
use Rattle.tuples.proofs.groups.taken.Goals as goal

pub returns-in-Some-clause-left : goal.returns-in-Some-clause-left
returns-in-Some-clause-left c = λ page offset. took-out (λ (v : Vec Fact Global). v.items) (get_by (is_key page offset) c.swap_remove.new.self) (get_by (is_key page offset) c.args.groups.now)
    ((c.args.key.0 == page) && (c.args.key.1 == offset)) (c.swap_remove.ensures.updates.0 (page, offset))

pub returns-in-None-clause-left : goal.returns-in-None-clause-left
returns-in-None-clause-left c = λ page offset. took-out (λ (v : Vec Fact Global). v.items) (get_by (is_key page offset) c.swap_remove.new.self) (get_by (is_key page offset) c.args.groups.now)
    ((c.args.key.0 == page) && (c.args.key.1 == offset)) (c.swap_remove.ensures.updates.0 (page, offset))
