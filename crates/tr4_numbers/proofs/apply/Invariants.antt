use Rattle.std.proofs.Common.{◌+◌, ◌≤◌, length, take}
use Rattle.std.specs.Str.{chars}
use Rattle.tr4_numbers.specs.Readers.{held}
use Rattle.tr4_numbers.proofs.Steps.{StandsAt}
use Rattle.tr4_numbers.proofs.apply.Given as goal

abbrev pub invariant-loop-c : goal.invariant-loop-c
invariant-loop-c l =
    (l.end + held l.phase ≤ length l.yielded + 1) × StandsAt l.format (chars l.text) (take l.end l.out) (length l.yielded) l.phase
