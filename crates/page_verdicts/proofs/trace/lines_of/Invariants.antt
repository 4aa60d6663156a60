use Rattle.std.proofs.Common.{◌≡◌, take}
use Rattle.std.specs.List.{flat_map}
use Rattle.page_verdicts.specs.Texts.{trace_line}
use Rattle.page_verdicts.proofs.trace.lines_of.Given as goal

abbrev pub invariant-loop-item : goal.invariant-loop-item
invariant-loop-item l = l.text ≡ flat_map trace_line (take l.item-index l.items)
