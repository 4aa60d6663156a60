use Rattle.std.proofs.Common.{◌≡◌, ◌≤◌, ◌-◌, length}
use Rattle.page_tree.specs.Model.{fed_bytes}
use Rattle.page_rows.proofs.pages.feed_all.Given as goal

abbrev pub invariant-pieces : goal.invariant-pieces
invariant-pieces l = (fed_bytes l.builder ≡ l.at) × (l.at ≤ length l.page)

abbrev pub decreases-pieces : goal.decreases-pieces
decreases-pieces l = length l.page - l.at
