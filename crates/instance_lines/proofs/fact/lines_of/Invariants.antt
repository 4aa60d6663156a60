use Rattle.std.proofs.Common.{◌≡◌, map, take}
use Rattle.instance_lines.specs.Elements.{fact_line}
use Rattle.instance_lines.proofs.fact.lines_of.Given as goal

abbrev pub invariant-loop-fact : goal.invariant-loop-fact
invariant-loop-fact l = l.lines.items ≡ map (fact_line l.prefixes) (take l.fact-index l.facts)
