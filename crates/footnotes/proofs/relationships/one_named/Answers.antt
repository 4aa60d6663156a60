use Rattle.std.proofs.Common.{◌∙◌, ap, cond, Some, None}
use Rattle.ix_base.specs.LocatedElements.{located}
use Rattle.id_table.specs.Model.{IsOfOthers}
use Rattle.id_table.proofs.OtherLaws.{others_end, others_fact}
use Rattle.footnotes.specs.declared.relationships.End.{End}
use Rattle.footnotes.specs.declared.relationships.End.TheVariants as end
use Rattle.footnotes.specs.EndTests.{fits_end}
use Rattle.footnotes.proofs.relationships.one_named.Goals as goal

others_fit : (w : End) → IsOfOthers (fits_end w)
others_fit end.From = others_fact
others_fit end.To = others_end

pub returns-then-fits_end : goal.returns-then-fits_end
returns-then-fits_end c =
    ap (λ b. cond b (Some (located c.in_ok-found.found.spot.now)) None) c.if-fits_end.ensures
    ∙ c.in_ok-found.ensures.others (fits_end c.args.end) (others_fit c.args.end)

pub returns-else-fits_end : goal.returns-else-fits_end
returns-else-fits_end c =
    ap (λ b. cond b (Some (located c.in_ok-found.found.spot.now)) None) c.if-fits_end.ensures
    ∙ c.in_ok-found.ensures.others (fits_end c.args.end) (others_fit c.args.end)
