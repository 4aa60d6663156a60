use Rattle.std.proofs.Common.{◌≡◌, true, drop}
use Rattle.std.specs.List.{list_any}
use Rattle.page_session.specs.Script.{is_extract}
use Rattle.ixds_run.specs.ScriptRuns.{HasFollowed}
use Rattle.ixds_run.proofs.session.follow_lines.Given as goal

abbrev pub invariant-loop-line : goal.invariant-loop-line
invariant-loop-line g l = record {
  faults : g.P.PageSource.faults l.pages ≡ g.P.PageSource.faults l.fn.pages;
  numbers : g.P.PageSource.numbers l.pages ≡ g.P.PageSource.numbers l.fn.pages;
  page : g.P.PageSource.page l.pages ≡ g.P.PageSource.page l.fn.pages;
  followed : HasFollowed (g.P.PageSource.page l.fn.pages) l.base l.lines (drop l.line-index l.lines) (g.P.PageSource.starts l.fn.pages)
      (g.P.PageSource.starts l.pages) l.session l.text;
  extract : list_any (λ x. is_extract x.line) (drop l.line-index l.lines) ≡ true;
}
