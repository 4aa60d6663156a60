use Rattle.std.proofs.Common.{◌≡◌, drop}
use Rattle.std.specs.List.{list_all}
use Rattle.instance_lines.specs.Holdings.{item_texts}
use Rattle.instance_lines.specs.Tables.{values_of}
use Rattle.proper_texts.specs.TextTests.{passes}
use Rattle.proper_texts.proofs.texts.items_pass.Given as goal

abbrev pub invariant-loop-item : goal.invariant-loop-item
invariant-loop-item l = list_all (λ i. list_all (passes l.test) (item_texts i)) (values_of (drop l.item-index l.items)) ≡ list_all (λ i. list_all (passes l.test) (item_texts i)) (values_of l.items)
