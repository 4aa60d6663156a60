use Rattle.std.proofs.Common.{◌≡◌, map, take}
use Rattle.instance_lines.specs.Elements.{locator_text}
use Rattle.instance_lines.specs.Tables.{values_of}
use Rattle.instance_lines.proofs.note.locators_to.Given as goal

abbrev pub invariant-loop-id : goal.invariant-loop-id
invariant-loop-id l = l.locators.items ≡ map locator_text (values_of (take l.id-index l.ids))
