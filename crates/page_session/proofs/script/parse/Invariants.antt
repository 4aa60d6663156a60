use Rattle.std.proofs.Common.{◌≡◌, ◌-◌, ◌≤◌, length}
use Rattle.page_session.proofs.ScriptLaws.{joined, said_from}
use Rattle.page_session.proofs.script.parse.Given as goal

-- the lines before here, in front of what the rest says, are what the script says
abbrev pub invariant-loop-start : goal.invariant-loop-start
invariant-loop-start l = record {
  within : l.start ≤ length l.script;
  said_is : joined l.lines (said_from l.start l.script) ≡ said_from 0 l.script;
}

abbrev pub decreases-loop-start : goal.decreases-loop-start
decreases-loop-start l = length l.script - l.start
