use Rattle.std.proofs.Common.{◌∙◌, sym}
use Rattle.tuples.proofs.AboveLaws.{above-on, all-at, located-on, nearest-next, on-own}
use Rattle.tuples.proofs.owners.nearest_tuple.Goals as goal

pub returns-then-is_tuple-clause-located : goal.returns-then-is_tuple-clause-located
returns-then-is_tuple-clause-located c = λ up.
    located-on c.args.page c.in-Some.around.now (all-at c.args.page c.loop-at.at c.in-Some.around c.in-Some.is (c.loop-at.invariant.pages up))

pub returns-then-is_tuple-clause-page : goal.returns-then-is_tuple-clause-page
returns-then-is_tuple-clause-page c = λ up.
    on-own c.args.page c.in-Some.around.now (all-at c.args.page c.loop-at.at c.in-Some.around c.in-Some.is (c.loop-at.invariant.pages up))

pub loop-at-preserved : goal.loop-at-preserved
loop-at-preserved c = record {
  nearest = nearest-next c.args.page c.loop-at.at c.in-Some.around _ c.in-Some.is (sym c.is_tuple.ensures ∙ c.if-is_tuple.false) c.loop-at.invariant.nearest;
  pages = λ up. above-on c.args.page c.in-Some.around.now (all-at c.args.page c.loop-at.at c.in-Some.around c.in-Some.is (c.loop-at.invariant.pages up));
}
