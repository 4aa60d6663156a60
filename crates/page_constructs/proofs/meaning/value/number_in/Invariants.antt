use Rattle.std.proofs.Common.{◌≡◌, ◌≤◌, drop, option_map}
use Rattle.page_constructs.specs.Spans.{up_to_beyond}
use Rattle.page_constructs.specs.Values.{number_behind}
use Rattle.page_constructs.proofs.meaning.value.number_in.Given as goal

abbrev pub invariant-loop-byte : goal.invariant-loop-byte
invariant-loop-byte l =
    (l.number ≤ 0x110000)
    × (option_map up_to_beyond (number_behind l.base l.number (drop l.byte-index l.digits)) ≡ option_map up_to_beyond (number_behind l.base 0 l.digits))
