use Rattle.std.proofs.Common.{◌≡◌, map, take}
use Rattle.instance_lines.specs.Canonical.{line, arcrole_markup}
use Rattle.proper_content.proofs.lines.arcroles_rise.Given as goal

abbrev pub invariant-loop-role : goal.invariant-loop-role
invariant-loop-role l = l.lines.items ≡ map (λ x. line (arcrole_markup x)) (take l.role-index l.roles)
