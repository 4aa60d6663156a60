use Rattle.std.proofs.Common.{arith}
use Rattle.ix_base.specs.LocatedElements.{located}
use Rattle.continuations.proofs.Inner.{inner-more}
use Rattle.continuations.proofs.Numbering.{located-at}
use Rattle.continuations.proofs.inside.inner_marks.Goals as goal

pub loop-x-preserved : goal.loop-x-preserved
loop-x-preserved c = record {
  len = omega (arith, c.loop-x.invariant.len, c.in_ok-push.ensures.len);
  inner = inner-more c.args.numbers.now c.args.courses.now.nexts.now c.args.courses.now.first _ c.loop-x.x (located c.index-spots-x.result.now) c.is_inner.result c.loop-x.marks.items c.push.new.self.items
      c.loop-x.invariant.len c.loop-x.invariant.inner (located-at c.args.spots.now c.loop-x.x c.index-spots-x.result c.loop-x-test.true c.index-spots-x.is)
      c.is_inner.ensures c.in_ok-push.ensures.items;
}

pub returns-clause-inner : goal.returns-clause-inner
returns-clause-inner c = λ k e l at. c.loop-x.invariant.inner k e (omega (arith, l, c.loop-x-test.false)) at
