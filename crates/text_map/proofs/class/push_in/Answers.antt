use Rattle.std.proofs.Common.{None}
use Rattle.std.proofs.lemmas.Result.{on_err_weaker, on_ok_weaker}
use Rattle.text_map.proofs.Classes.{class-changed, class-same, class-small}
use Rattle.text_map.specs.Tables.{added, items_at}
use Rattle.text_map.proofs.class.push_in.Goals as goal

pub returns-clause-ok : goal.returns-clause-ok
returns-clause-ok g c =
    on_ok_weaker c.push.result
    (class-changed items_at None c.args.tables.now c.index-tables-class.result c.push.new.table c.args.key.text.now c.class-class.result c.class-class.ensures.value
    c.requires (added c.args.item)) c.push.ensures.ok

pub returns-clause-err : goal.returns-clause-err
returns-clause-err g c =
    on_err_weaker c.push.result
    (class-same items_at None c.args.tables.now c.index-tables-class.result c.push.new.table c.args.key.text.now c.class-class.result c.class-class.ensures.value
    c.requires) c.push.ensures.err

pub returns-clause-small : goal.returns-clause-small
returns-clause-small g c =
    class-small c.args.tables.now c.index-tables-class.result c.push.new.table c.args.key.text.now c.class-class.result c.class-class.ensures.value
    c.requires c.push.ensures.size
