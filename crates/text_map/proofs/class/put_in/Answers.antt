use Rattle.std.proofs.Common.{◌∙◌, None, Some, sym}
use Rattle.std.proofs.lemmas.Result.{IfOk-weaker, on_err_weaker, on_ok_weaker}
use Rattle.text_map.proofs.Classes.{class-changed, class-found, class-same, class-small}
use Rattle.text_map.specs.Tables.{at}
use Rattle.text_map.proofs.class.put_in.Goals as goal

pub returns-clause-ok : goal.returns-clause-ok
returns-clause-ok g c =
    on_ok_weaker c.put.result
    (class-changed at None c.args.tables.now c.index-tables-class.result c.put.new.table c.args.key.text.now c.class-class.result c.class-class.ensures.value
    c.requires (λ _. Some c.args.value)) c.put.ensures.ok

pub returns-clause-err : goal.returns-clause-err
returns-clause-err g c =
    on_err_weaker c.put.result
    (class-same at None c.args.tables.now c.index-tables-class.result c.put.new.table c.args.key.text.now c.class-class.result c.class-class.ensures.value
    c.requires) c.put.ensures.err

pub returns-clause-small : goal.returns-clause-small
returns-clause-small g c =
    class-small c.args.tables.now c.index-tables-class.result c.put.new.table c.args.key.text.now c.class-class.result c.class-class.ensures.value
    c.requires c.put.ensures.size

pub returns-clause-older : goal.returns-clause-older
returns-clause-older g c =
    IfOk-weaker c.put.result _ _
    (λ o e. e ∙ sym (class-found c.args.tables.now c.index-tables-class.result c.put.new.table c.args.key.text.now c.class-class.result c.class-class.ensures.value
    c.requires)) c.put.ensures.older
