use Rattle.std.proofs.Common.{◌≡◌, drop}
use Rattle.page_constructs.specs.Stops.{flips}
use Rattle.page_constructs.proofs.size.parts.is_inside.Given as goal

abbrev pub invariant-loop-byte : goal.invariant-loop-byte
invariant-loop-byte l = flips l.inside (drop l.byte-index l.bytes) ≡ flips l.before l.bytes
