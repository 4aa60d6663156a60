use Rattle.std.proofs.Common.{Vec}
use Rattle.std.specs.Global.{Global}
use Rattle.std.specs.Prelude.{◌&&◌, ◌==◌}
use Rattle.indexmap.specs.IndexMap.{get_by}
use Rattle.tuples.specs.declared.fact.Fact.{Fact}
use Rattle.id_table.specs.Slices.{is_key}
use Rattle.tuples.proofs.GroupLaws.{put-in}
use Rattle.tuples.proofs.groups.put.Goals as goal

pub returns : goal.returns
returns c = λ page offset. put-in (λ (v : Vec Fact Global). v.items) (get_by (is_key page offset) c.insert.new.self) (get_by (is_key page offset) c.args.groups.now)
    ((c.args.key.0 == page) && (c.args.key.1 == offset)) c.args.group (c.in_ok-insert.ensures.updates.0 (page, offset))
