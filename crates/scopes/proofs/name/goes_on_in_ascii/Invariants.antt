use Rattle.std.proofs.Common.{◌≡◌, true, take}
use Rattle.std.specs.List.{list_all}
use Rattle.scopes.specs.AsciiNames as ascii
use Rattle.scopes.proofs.name.goes_on_in_ascii.Given as goal

abbrev pub invariant-loop-byte : goal.invariant-loop-byte
invariant-loop-byte l = list_all ascii.is_char (take l.byte-index l.text) ≡ true
