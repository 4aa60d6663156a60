use Rattle.std.proofs.Common.{◌≡◌, bytes_eq, drop}
use Rattle.std.specs.List.{concat}
use Rattle.instance_out.proofs.are_bytes.Given as goal

-- the lines that are left are the bytes that are left where all are all
abbrev pub invariant-loop-line : goal.invariant-loop-line
invariant-loop-line l = bytes_eq (concat (drop l.line-index l.lines)) l.left ≡ bytes_eq (concat l.lines) l.bytes
