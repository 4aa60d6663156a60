use Rattle.std.proofs.Common.{◌≡◌, ◌+◌, ◌++◌, take, replicate}
use Rattle.scale_sign.proofs.writer.put_zeros.Given as goal

abbrev pub invariant-loop-i : goal.invariant-loop-i
invariant-loop-i l = (l.end ≡ l.at + l._i) × (take l.end l.out ≡ take l.at l.initial.out ++ replicate l._i 48)
