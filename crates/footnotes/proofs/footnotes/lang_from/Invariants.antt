use Rattle.std.proofs.Common.{◌≡◌}
use Rattle.ix_base.specs.Elements.{path_above}
use Rattle.ix_base.specs.Readers.{lang_along}
use Rattle.footnotes.proofs.footnotes.lang_from.Given as goal

-- no element that was passed has a language
abbrev pub invariant-loop-at : goal.invariant-loop-at
invariant-loop-at l = lang_along (path_above l.at) ≡ lang_along (path_above l.first)
