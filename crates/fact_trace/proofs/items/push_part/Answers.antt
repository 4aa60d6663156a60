use Rattle.std.proofs.Common.{◌∙◌, ap, sym}
use Rattle.ix_base.specs.LocatedElements.{located}
use Rattle.ix_base.specs.Trees.{tree_of}
use Rattle.facts.specs.FractionValue.{part_in}
use Rattle.fact_trace.specs.Model.{sources_of}
use Rattle.fact_trace.proofs.TextLaws.{children-at, part-is}
use Rattle.fact_trace.proofs.items.push_part.Goals as goal

pub push_lying-requires : goal.push_lying-requires
push_lying-requires c =
    part-is (sources_of c.args.pages.now) c.args.local.now (located c.args.spot.now) (tree_of c.in-Some.part.now)
    (ap (part_in c.args.local.now) (sym (children-at c.args.spot.now)) ∙ sym c.in-Some.ensures) c.requires
