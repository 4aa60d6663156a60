use Rattle.std.proofs.Common.{◌≡◌, ◌++◌, ◌≤◌, ◌-◌, length}
use Rattle.page_tree.specs.Reaches.{StandsAt}
use Rattle.fact_trace.specs.Walks.{IsFrontPassed}
use Rattle.fact_trace.proofs.WayLaws.{ahead}
use Rattle.fact_trace.proofs.walk.push_way.Given as goal

abbrev pub invariant-way : goal.invariant-way
invariant-way l = record {
  spans : l.spans ++ ahead l.page.name l.page.bytes.now l.left_out l.open l.muted l.at
      ≡ l.initial.spans ++ ahead l.page.name l.page.bytes.now l.left_out 0 0 l.from;
  stands : StandsAt l.page.bytes.now l.at;
  room : l.at ≤ length l.page.bytes.now;
  opened : l.open ≤ l.at;
  mutes : l.muted ≤ l.open;
  passed : IsFrontPassed l.left_out l.next l.at;
}

abbrev pub decreases-way : goal.decreases-way
decreases-way l = length l.page.bytes.now - l.at
