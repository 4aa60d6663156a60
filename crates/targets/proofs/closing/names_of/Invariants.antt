use Rattle.std.proofs.Common.{◌≡◌, map, take}
use Rattle.targets.proofs.closing.names_of.Given as goal

-- the names before here
abbrev pub invariant-loop-page : goal.invariant-loop-page
invariant-loop-page l = l.names.items ≡ map (λ p. p.name) (take l.page-index l.pages)
