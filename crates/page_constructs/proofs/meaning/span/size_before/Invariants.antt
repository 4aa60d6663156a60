use Rattle.std.proofs.Common.{◌≡◌, ◌+◌, length, drop}
use Rattle.page_constructs.specs.Meanings.{before}
use Rattle.page_constructs.specs.Stops.{stops}
use Rattle.page_constructs.proofs.meaning.span.size_before.Given as goal

abbrev pub invariant-loop-at : goal.invariant-loop-at
invariant-loop-at l = l.at + length (before (stops l.stop) (drop l.at l.text)) ≡ length (before (stops l.stop) l.text)
