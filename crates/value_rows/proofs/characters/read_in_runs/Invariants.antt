use Rattle.std.proofs.Common.{length, ◌-◌, ◌≡◌, ◌≤◌}
use Rattle.value_rows.proofs.characters.read_in_runs.Given as goal

abbrev pub invariant-parts : goal.invariant-parts
invariant-parts l = (l.feed.pushed ≡ l.at) × (l.at ≤ length l.bytes)

abbrev pub decreases-parts : goal.decreases-parts
decreases-parts l = length l.bytes - l.at
