use Rattle.std.proofs.Common.{◌∙◌, ◌||◌, ap, sym}
use Rattle.id_table.specs.Model.{asked}
use Rattle.footnotes.proofs.EndLaws.{ends-break}
use Rattle.footnotes.proofs.rules.goes_to_nothing.Goals as goal

pub returns-else-relationship : goal.returns-else-relationship
returns-else-relationship c =
    ap (λ m. m || c.has_both.result) (sym c.if-relationship.false)
    ∙ ends-break (asked c.args.index.now) c.args.relationship.now c.has_both.result c.requires.known c.requires.is c.has_both.ensures
