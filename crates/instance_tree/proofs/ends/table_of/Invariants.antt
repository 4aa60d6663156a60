use Rattle.std.proofs.Common.{◌≡◌, ◌≤◌, true, drop, length, map}
use Rattle.instance_lines.specs.Lists.{are_apart}
use Rattle.instance_tree.specs.ReaderWords.{HasEnds, end_of, labels_of}
use Rattle.instance_tree.proofs.ends.table_of.Given as goal

-- the table has the ends from here on, and no two of them have one label
abbrev pub invariant-loop-left : goal.invariant-loop-left
invariant-loop-left l = record {
  within : l.left ≤ length l.ends;
  apart : are_apart (labels_of (map end_of (drop l.left l.ends))) ≡ true;
  ids : HasEnds l.table (map end_of (drop l.left l.ends));
}

abbrev pub decreases-loop-left : goal.decreases-loop-left
decreases-loop-left l = l.left
