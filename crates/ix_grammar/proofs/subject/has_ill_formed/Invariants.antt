use Rattle.std.proofs.Common.{◌≡◌, map, drop}
use Rattle.std.specs.List.{list_any}
use Rattle.ix_base.specs.Trees.{valued}
use Rattle.ix_grammar.specs.NeededForms.{is_ill_formed}
use Rattle.ix_grammar.proofs.subject.has_ill_formed.Given as goal

abbrev pub invariant-loop-attr : goal.invariant-loop-attr
invariant-loop-attr l =
    list_any is_ill_formed (map valued (drop l.attr-index l.e.attrs.written.now)) ≡ list_any is_ill_formed (map valued l.e.attrs.written.now)
