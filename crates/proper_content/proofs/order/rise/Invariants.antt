use Rattle.std.proofs.Common.{◌≡◌, ◌∷◌, drop}
use Rattle.ix_base.specs.SortedLists.{text_cmp}
use Rattle.instance_lines.specs.Lists.{strictly}
use Rattle.instance_lines.specs.Tables.{values_of}
use Rattle.proper_content.proofs.order.rise.Given as goal
use denote.Shadow.{shadow}
use denote.Text.{Utf8}

abbrev pub invariant-loop-next : goal.invariant-loop-next
invariant-loop-next l =
    shadow (Utf8 l.before) × (strictly text_cmp (l.before ∷ values_of (drop l.next-index l.rest)) ≡ strictly text_cmp (values_of l.texts))
