use Rattle.std.proofs.Common.{◌≡◌, drop}
use Rattle.std.specs.List.{list_all}
use Rattle.instance_lines.specs.Tables.{values_of}
use Rattle.proper_texts.specs.TextTests.{passes}
use Rattle.proper_texts.proofs.texts.ids_pass.Given as goal

abbrev pub invariant-loop-id : goal.invariant-loop-id
invariant-loop-id l = list_all (passes l.test) (values_of (drop l.id-index l.ids)) ≡ list_all (passes l.test) (values_of l.ids)
