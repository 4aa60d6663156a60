use Rattle.std.proofs.Common.{◌≡◌, ◌≤◌, ◌+◌, length}
use Rattle.targets.specs.Breaches.{tags_in}
use Rattle.page_session.proofs.reading.count_tags.Given as goal

abbrev pub invariant-parts : goal.invariant-parts
invariant-parts l = (l.count + tags_in l.rest ≡ tags_in l.piece) × (l.count + length l.rest ≤ length l.piece)

abbrev pub decreases-parts : goal.decreases-parts
decreases-parts l = length l.rest
