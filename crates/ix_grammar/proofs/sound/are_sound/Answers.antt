use Rattle.std.proofs.Common.{◌∙◌, ap, sym}
use Rattle.ix_base.specs.Trees.{tree_of, valued}
use Rattle.ix_grammar.specs.SoundFacts.{is_odd}
use Rattle.ix_grammar.proofs.SeenLaws.{none-odd, none-odd-here, scope-is, there-at}
use Rattle.ix_grammar.proofs.sound.are_sound.Goals as goal

pub loop-attr-preserved : goal.loop-attr-preserved
loop-attr-preserved c = record {
  odd = none-odd-here c.args.kind _ c.args.e.now.attrs.written.now c.loop-attr.attr-index c.attr-item.result _ c.loop-attr-test.true c.attr-item.is
      (ap (λ scope. is_odd c.args.kind scope (valued c.attr-item.result)) (scope-is c.args.e.now) ∙ c.seen_of-seen.ensures.fit (sym c.if-tells_odd.ensures))
      c.loop-attr.invariant.odd;
  there = c.with-given.ensures (tree_of c.args.e.now) c.loop-attr.invariant.there
      (there-at c.args.e.now c.loop-attr.attr-index c.attr-item.result c.seen_of-seen.result c.loop-attr-test.true c.attr-item.is c.seen_of-seen.ensures.seen);
}

pub returns-then-suffices-clause-odd : goal.returns-then-suffices-clause-odd
returns-then-suffices-clause-odd c = λ t. none-odd c.args.kind c.args.e.now c.loop-attr.attr-index c.loop-attr-test.false c.loop-attr.invariant.odd
