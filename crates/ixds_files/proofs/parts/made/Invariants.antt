use Rattle.std.proofs.Common.{◌≡◌}
use Rattle.ixds_files.proofs.parts.made.Given as goal

-- nothing was done so far
abbrev pub invariant-loop-number : goal.invariant-loop-number
invariant-loop-number g l = g.F.Folder.deeds l.folder ≡ g.F.Folder.deeds l.initial.folder
