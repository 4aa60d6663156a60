use Rattle.std.proofs.Common.{arith}
use Rattle.continuations.proofs.VisitLaws.{none-more}
use Rattle.continuations.proofs.visits.unmet.Goals as goal

pub loop-number-preserved : goal.loop-number-preserved
loop-number-preserved c = record {
  len = omega (arith, c.loop-number.invariant.len, c.in_ok-push.ensures.len);
  none = none-more c.loop-number.visits.items c.push.new.self.items c.loop-number.invariant.none c.in_ok-push.ensures.items;
}
