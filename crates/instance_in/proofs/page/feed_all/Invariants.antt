use Rattle.std.proofs.Common.{◌≡◌, ◌++◌, List, ℕ, length}
use Rattle.page_tree.specs.Model.{StandsFor, limit}
use Rattle.instance_in.proofs.page.feed_all.Given as goal

-- the builder was given what isn't left
abbrev pub invariant-loop-left : goal.invariant-loop-left
invariant-loop-left l = record {
  limit_is : limit l.builder ≡ limit l.fn.builder;
  given : (front : List ℕ) × (front ++ l.left ≡ l.bytes) × StandsFor l.builder front;
}

abbrev pub decreases-loop-left : goal.decreases-loop-left
decreases-loop-left l = length l.left
