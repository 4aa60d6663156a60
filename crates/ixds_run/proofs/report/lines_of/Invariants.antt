use Rattle.std.proofs.Common.{◌≡◌, take}
use Rattle.std.specs.List.{flat_map}
use Rattle.page_verdicts.specs.Texts.{breach_line}
use Rattle.ixds_run.proofs.report.lines_of.Given as goal

abbrev pub invariant-loop-breach : goal.invariant-loop-breach
invariant-loop-breach l = l.text ≡ flat_map breach_line (take l.breach-index l.report.lines)
