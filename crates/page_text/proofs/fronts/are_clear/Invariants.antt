use Rattle.std.proofs.Common.{◌≡◌, take}
use Rattle.std.specs.List.{list_all}
use Rattle.page_text.specs.Plain.{is_clear}
use Rattle.page_text.proofs.fronts.are_clear.Given as goal

abbrev pub invariant-loop-byte : goal.invariant-loop-byte
invariant-loop-byte l = l.all ≡ list_all is_clear (take l.byte-index l.bytes)
