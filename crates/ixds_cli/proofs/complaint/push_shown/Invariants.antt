use Rattle.std.proofs.Common.{◌≡◌, ◌++◌, take}
use Rattle.ixds_cli.specs.Complaints.{shown}
use Rattle.ixds_cli.proofs.complaint.push_shown.Given as goal

-- the bytes before here are added, as they are shown
abbrev pub invariant-loop-b : goal.invariant-loop-b
invariant-loop-b l = l.line.items ≡ l.initial.line.items ++ shown (take l.b-index l.name)
