use Rattle.std.proofs.Common.{◌≡◌, map, drop}
use Rattle.std.specs.List.{list_any}
use Rattle.ix_base.specs.Trees.{tree_of, valued}
use Rattle.ix_grammar.specs.SoundFacts.{is_odd, AreThere}
use Rattle.ix_grammar.proofs.sound.are_sound.Given as goal

abbrev pub invariant-loop-attr : goal.invariant-loop-attr
invariant-loop-attr l = record {
  odd : list_any (is_odd l.kind (tree_of l.e).head.scope) (map valued (drop l.attr-index l.e.attrs.written.now))
      ≡ list_any (is_odd l.kind (tree_of l.e).head.scope) (map valued l.e.attrs.written.now);
  there : AreThere (tree_of l.e) l.given;
}
