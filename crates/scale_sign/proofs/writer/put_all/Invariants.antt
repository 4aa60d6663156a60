use Rattle.std.proofs.Common.{◌≡◌, ◌+◌, ◌++◌, take}
use Rattle.scale_sign.proofs.writer.put_all.Given as goal

abbrev pub invariant-loop-byte : goal.invariant-loop-byte
invariant-loop-byte l = (l.end ≡ l.at + l.byte-index) × (take l.end l.out ≡ take l.at l.initial.out ++ take l.byte-index l.bytes)
