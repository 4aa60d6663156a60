use Rattle.std.proofs.Common.{◌≡◌, take}
use Rattle.std.specs.List.{flat_map}
use Rattle.page_verdicts.specs.Texts.{summary_line}
use Rattle.ixds_run.proofs.summary.lines_of.Given as goal

abbrev pub invariant-loop-target : goal.invariant-loop-target
invariant-loop-target l = l.text ≡ flat_map summary_line (take l.target-index l.targets)
