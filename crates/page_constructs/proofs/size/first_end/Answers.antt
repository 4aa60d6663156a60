use Rattle.std.proofs.Common.{◌∙◌, arith}
use Rattle.page_constructs.proofs.SizeLaws.{found-size, seeks-on}
use Rattle.page_constructs.proofs.size.first_end.Goals as goal

pub returns-in-Beyond-clause-value : goal.returns-in-Beyond-clause-value
returns-in-Beyond-clause-value c =
    c.in-Beyond.ensures.value
    ∙ found-size c.args.first c.args.text.now c.args.sought c.sought_from.result c.kind_of-kind.result c.kind_of-kind.ensures (c.sought_from.ensures c.args.first c.args.text.now c.kind_of-kind.ensures c.requires)

pub returns-in_default-clause-value : goal.returns-in_default-clause-value
returns-in_default-clause-value c =
    c.seek-end.ensures.value
    ∙ found-size c.args.first c.args.text.now c.args.sought c.sought_from.result c.kind_of-kind.result c.kind_of-kind.ensures (c.sought_from.ensures c.args.first c.args.text.now c.kind_of-kind.ensures c.requires)

pub returns-in_default-clause-goes : goal.returns-in_default-clause-goes
returns-in_default-clause-goes c = λ s e.
    seeks-on c.args.first c.args.text.now c.sought_from.result s c.kind_of-kind.result c.kind_of-kind.ensures (let few = c.if-text-lt9.false in omega arith)
    (c.sought_from.ensures c.args.first c.args.text.now c.kind_of-kind.ensures c.requires) (c.seek-end.ensures.goes s e)

pub returns-in_default-2-clause-value : goal.returns-in_default-2-clause-value
returns-in_default-2-clause-value c =
    c.seek-end.ensures.value
    ∙ found-size c.args.first c.args.text.now c.args.sought c.sought_from.result c.kind_of-kind.result c.kind_of-kind.ensures (c.sought_from.ensures c.args.first c.args.text.now c.kind_of-kind.ensures c.requires)
