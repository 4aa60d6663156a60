use Rattle.std.proofs.Common.{◌≡◌, ◌≤◌, ◌+◌, ◌-◌, length, drop}
use Rattle.tr4_dates.specs.Readers.{name_at}
use Rattle.tr4_dates.proofs.read.name_len.Given as goal

abbrev pub invariant-loop-len : goal.invariant-loop-len
invariant-loop-len l = (l.len ≤ length l.text) × (length (name_at l.language l.text) ≡ l.len + length (name_at l.language (drop l.len l.text)))

abbrev pub decreases-loop-len : goal.decreases-loop-len
decreases-loop-len l = length l.text - l.len
