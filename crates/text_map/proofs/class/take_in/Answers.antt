use Rattle.std.proofs.Common.{◌∙◌, None, sym}
use Rattle.text_map.proofs.Classes.{class-changed, class-found, class-smaller}
use Rattle.text_map.specs.Tables.{at}
use Rattle.text_map.proofs.class.take_in.Goals as goal

pub returns-clause-texts : goal.returns-clause-texts
returns-clause-texts g c =
    class-changed at None c.args.tables.now c.index-tables-class.result c.take.new.table c.args.key.text.now c.class-class.result c.class-class.ensures.value
    c.requires (λ _. None) c.take.ensures.texts

pub returns-clause-small : goal.returns-clause-small
returns-clause-small g c =
    class-smaller c.args.tables.now c.index-tables-class.result c.take.new.table c.args.key.text.now c.class-class.result c.class-class.ensures.value
    c.requires c.take.ensures.size

pub returns-clause-value : goal.returns-clause-value
returns-clause-value g c =
    c.take.ensures.value
    ∙ sym (class-found c.args.tables.now c.index-tables-class.result c.take.new.table c.args.key.text.now c.class-class.result c.class-class.ensures.value
    c.requires)
