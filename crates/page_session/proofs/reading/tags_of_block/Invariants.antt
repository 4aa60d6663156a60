use Rattle.std.proofs.Common.{◌≡◌, ◌≤◌, ◌+◌, drop}
use Rattle.targets.specs.Breaches.{tags_in}
use Rattle.page_session.proofs.reading.tags_of_block.Given as goal

abbrev pub invariant-loop-byte : goal.invariant-loop-byte
invariant-loop-byte l = (l.count + tags_in (drop l.byte-index l.block) ≡ tags_in l.block) × (l.count ≤ l.byte-index)
