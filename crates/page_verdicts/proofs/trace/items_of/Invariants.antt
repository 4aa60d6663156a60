use Rattle.std.proofs.Common.{◌≡◌, false, map, take}
use Rattle.targets.specs.Forest.{trees_of}
use Rattle.page_verdicts.specs.Verdicts.{sources}
use Rattle.page_verdicts.proofs.trace.items_of.Given as goal

abbrev pub invariant-loop-number : goal.invariant-loop-number
invariant-loop-number l =
    l.tracer ≡ record { sources = take l.number (sources l.names (map (λ t. t.now) l.texts) (trees_of l.roots)); is_spent = false }
