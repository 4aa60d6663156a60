use Rattle.std.proofs.Common.{◌≡◌, length, take}
use Rattle.std.specs.List.{concat}
use Rattle.instance_out.proofs.total_len.Given as goal

abbrev pub invariant-loop-line : goal.invariant-loop-line
invariant-loop-line l = l.total ≡ length (concat (take l.line-index l.lines))
