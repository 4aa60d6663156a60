use Rattle.std.proofs.Common.{◌≡◌}
use Rattle.page_tree.specs.Model.{fed_bytes}
use Rattle.page_rows.proofs.pages.push_waiting.Given as goal

abbrev pub invariant-loop-cell : goal.invariant-loop-cell
invariant-loop-cell l = fed_bytes l.builder ≡ l.fed
