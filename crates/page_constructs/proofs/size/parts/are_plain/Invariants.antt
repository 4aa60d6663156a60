use Rattle.std.proofs.Common.{◌≡◌, take}
use Rattle.std.specs.List.{list_all}
use Rattle.page_constructs.specs.Stops.{is_plain}
use Rattle.page_constructs.proofs.size.parts.are_plain.Given as goal

abbrev pub invariant-loop-byte : goal.invariant-loop-byte
invariant-loop-byte l = l.all ≡ list_all is_plain (take l.byte-index l.bytes)
