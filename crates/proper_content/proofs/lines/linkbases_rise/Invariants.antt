use Rattle.std.proofs.Common.{◌≡◌, map, take}
use Rattle.instance_lines.specs.Canonical.{line, linkbase_markup}
use Rattle.proper_content.proofs.lines.linkbases_rise.Given as goal

abbrev pub invariant-loop-linkbase : goal.invariant-loop-linkbase
invariant-loop-linkbase l = l.lines.items ≡ map (λ x. line (linkbase_markup x)) (take l.linkbase-index l.linkbases)
