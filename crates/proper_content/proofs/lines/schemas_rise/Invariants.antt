use Rattle.std.proofs.Common.{◌≡◌, map, take}
use Rattle.instance_lines.specs.Canonical.{line, schema_markup}
use Rattle.proper_content.proofs.lines.schemas_rise.Given as goal

abbrev pub invariant-loop-href : goal.invariant-loop-href
invariant-loop-href l = l.lines.items ≡ map (λ x. line (schema_markup x)) (take l.href-index l.hrefs)
