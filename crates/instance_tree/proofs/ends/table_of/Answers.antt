use Rattle.std.proofs.Common.{◌∙◌, sym, arith}
use Rattle.instance_tree.proofs.EndLaws.{apart-before, clash, ids-before}
use Rattle.instance_tree.specs.ReaderWords.{id_at}
use Rattle.instance_tree.proofs.ends.table_of.Goals as goal

pub returns-then-not-branch-clause-apart : goal.returns-then-not-branch-clause-apart
returns-then-not-branch-clause-apart c =
    clash c.args.ends.now c.loop-left.left _ (omega arith) c.loop-left.invariant.within (id_at c.loop-left.table) c.loop-left.invariant.ids
    (sym c.in_ok-put.ensures.new ∙ c.if-not-branch.true)

pub loop-left-preserved : goal.loop-left-preserved
loop-left-preserved c = record {
  within = omega arith;
  apart = apart-before c.args.ends.now c.loop-left.left _ (omega arith) c.loop-left.invariant.within (id_at c.loop-left.table) c.loop-left.invariant.ids
      (sym c.in_ok-put.ensures.new ∙ c.if-not-branch.false) c.loop-left.invariant.apart;
  ids = λ q. c.in_ok-put.ensures.ids q
      ∙ ids-before c.args.ends.now c.loop-left.left _ (omega arith) c.loop-left.invariant.within (id_at c.loop-left.table) c.loop-left.invariant.ids q;
}
