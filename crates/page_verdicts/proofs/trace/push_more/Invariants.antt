use Rattle.std.proofs.Common.{◌≡◌, ◌++◌, take}
use Rattle.std.specs.List.{flat_map}
use Rattle.page_verdicts.specs.Texts.{next_span}
use Rattle.page_verdicts.proofs.trace.push_more.Given as goal

abbrev pub invariant-loop-span : goal.invariant-loop-span
invariant-loop-span l = l.text ≡ l.fn.text ++ flat_map next_span (take l.span-index l.spans)
