use Rattle.std.specs.Prelude.{◌≡◌}
use Rattle.std.proofs.Common.{drop}
use Rattle.std.specs.List.{list_all}
use Rattle.instance_out.specs.Proper.{is_numeric}
use Rattle.instance_lines.specs.Tables.{values_of}
use Rattle.proper_texts.proofs.numbers.are_numbers.Given as goal

abbrev pub invariant-loop-item : goal.invariant-loop-item
invariant-loop-item l = list_all (λ i. is_numeric i.unit i.value i.accuracy) (values_of (drop l.item-index l.items)) ≡ list_all (λ i. is_numeric i.unit i.value i.accuracy) (values_of l.items)
