use Rattle.std.proofs.Common.{◌≡◌, ◌≤◌, length, take}
use Rattle.scale_sign.specs.WrittenDigits.{cut}
use Rattle.scale_sign.proofs.writer.trimmed.Given as goal

abbrev pub invariant-loop-end : goal.invariant-loop-end
invariant-loop-end l = (l.end ≤ length l.bytes) × (cut (take l.end l.bytes) ≡ cut l.bytes)

abbrev pub decreases-loop-end : goal.decreases-loop-end
decreases-loop-end l = l.end
