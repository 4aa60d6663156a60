use Rattle.std.proofs.Common.{◌∙◌, ◌+◌, ◌<◌, List, length, drop, refl, subst, sym, arith}
use Rattle.std.proofs.lemmas.List.Elements.{All-get_or}
use Rattle.page_session.specs.Sources.{source_told}
use Rattle.page_session.specs.declared.script.ScriptLine.{ScriptLine}
use Rattle.ixds_run.specs.ScriptRuns.{HasFollowed, IsShort}
use Rattle.ixds_run.proofs.LineLaws.{extract_behind, followed_none, line_end, line_next, line_starts, line_stopped, none_behind, nothing_started}
use Rattle.targets.proofs.MadeLaws.{cut_at}
use Rattle.ixds_run.proofs.session.follow_lines.Goals as goal

pub loop-line-init : goal.loop-line-init
loop-line-init g c =
    let new = c.in-Ok.ensures in
    record {
      faults = refl;
      numbers = refl;
      page = refl;
      followed = followed_none _ _ _ _ c.in-Ok.session _ (c.lines_by_calls.ensures.begins c.in-Ok.session new.stands new.sums.0 new.sums.1) new.base new.sums.0 new.sums.1 c.in-Ok-of.ensures;
      extract = c.requires.lines.extract;
    }

pub loop-line-preserved : goal.loop-line-preserved
loop-line-preserved g c =
    let n = c.loop-line.line-index in
    let lines = c.args.lines.now in
    let line = c.line-item.result in
    let within : n < length lines = omega arith in
    let cut = cut_at lines n line within c.line-item.is in
    let on = rw c.in-Ok-None.field-0-is at c.in-Ok-None.ensures.follows in
    let h = subst (λ (r : List ScriptLine). HasFollowed (g.P.PageSource.page c.args.pages.now) c.args.base.now lines r (g.P.PageSource.starts c.args.pages.now)
    (g.P.PageSource.starts c.loop-line.pages) c.loop-line.session c.loop-line.text) cut c.loop-line.invariant.followed in
    record {
      faults = c.in-Ok-None.ensures.follows.ok ∙ c.loop-line.invariant.faults;
      numbers = c.in-Ok-None.ensures.numbers ∙ c.loop-line.invariant.numbers;
      page = c.in-Ok-None.ensures.pages ∙ c.loop-line.invariant.page;
      followed = line_next _ line _ _ _ _ _ _ _ _ lines (drop (n + 1) lines) _ c.loop-line.invariant.page h on;
      extract = extract_behind line (drop (n + 1) lines) (drop n lines) cut c.loop-line.invariant.extract (on.on refl);
    }

pub returns-in-Ok-Some-clause-due : goal.returns-in-Ok-Some-clause-due
returns-in-Ok-Some-clause-due g c =
    let n = c.loop-line.line-index in
    let lines = c.args.lines.now in
    let line = c.line-item.result in
    let within : n < length lines = omega arith in
    let on = rw c.in-Ok-Some.field-0-is at c.in-Ok-Some.ensures.follows in
    let h = subst (λ (r : List ScriptLine). HasFollowed (g.P.PageSource.page c.args.pages.now) c.args.base.now lines r (g.P.PageSource.starts c.args.pages.now)
    (g.P.PageSource.starts c.loop-line.pages) c.loop-line.session c.loop-line.text) (cut_at lines n line within c.line-item.is) c.loop-line.invariant.followed in
    line_end _ line _ _ _ _ _ _ _ _ lines (drop (n + 1) lines) _ c.loop-line.invariant.page h _ on

pub returns-in-Ok-Some-clause-starts : goal.returns-in-Ok-Some-clause-starts
returns-in-Ok-Some-clause-starts g c =
    let n = c.loop-line.line-index in
    let lines = c.args.lines.now in
    let line = c.line-item.result in
    let within : n < length lines = omega arith in
    let h = subst (λ (r : List ScriptLine). HasFollowed (g.P.PageSource.page c.args.pages.now) c.args.base.now lines r (g.P.PageSource.starts c.args.pages.now)
    (g.P.PageSource.starts c.loop-line.pages) c.loop-line.session c.loop-line.text) (cut_at lines n line within c.line-item.is) c.loop-line.invariant.followed in
    line_starts _ line _ _ _ _ _ _ _ _ lines (drop (n + 1) lines) _ c.loop-line.invariant.page h _ c.in-Ok-Some.ensures.follows

pub returns-in-Err-clause-starts : goal.returns-in-Err-clause-starts
returns-in-Err-clause-starts g c =
    let n = c.loop-line.line-index in
    let lines = c.args.lines.now in
    let line = c.line-item.result in
    let within : n < length lines = omega arith in
    let h = subst (λ (r : List ScriptLine). HasFollowed (g.P.PageSource.page c.args.pages.now) c.args.base.now lines r (g.P.PageSource.starts c.args.pages.now)
    (g.P.PageSource.starts c.loop-line.pages) c.loop-line.session c.loop-line.text) (cut_at lines n line within c.line-item.is) c.loop-line.invariant.followed in
    line_starts _ line _ _ _ _ _ _ _ _ lines (drop (n + 1) lines) _ c.loop-line.invariant.page h _ c.in-Err.ensures.follows

pub returns-in-Err-clause-stopped : goal.returns-in-Err-clause-stopped
returns-in-Err-clause-stopped g c =
    let n = c.loop-line.line-index in
    let lines = c.args.lines.now in
    let line = c.line-item.result in
    let within : n < length lines = omega arith in
    let h = subst (λ (r : List ScriptLine). HasFollowed (g.P.PageSource.page c.args.pages.now) c.args.base.now lines r (g.P.PageSource.starts c.args.pages.now)
    (g.P.PageSource.starts c.loop-line.pages) c.loop-line.session c.loop-line.text) (cut_at lines n line within c.line-item.is) c.loop-line.invariant.followed in
    line_stopped _ line _ _ _ _ _ _ _ _ lines (drop (n + 1) lines) _ c.loop-line.invariant.page h (source_told g.P.PageSource c.args.pages.now) _ c.loop-line.invariant.page c.loop-line.invariant.faults c.in-Err.ensures.follows

pub follow_line-requires-clause-short : goal.follow_line-requires-clause-short
follow_line-requires-clause-short g c =
    let lines = c.args.lines.now in
    let line = c.line-item.result in
    let within : c.loop-line.line-index < length lines = omega arith in
    subst (λ (l : ScriptLine). IsShort l.line) (sym c.line-item.is) (All-get_or (λ l. IsShort l.line) lines c.loop-line.line-index line within c.requires.lines.short)

pub unreachable-requires : goal.unreachable-requires
unreachable-requires g c = none_behind c.args.lines.now c.loop-line.line-index (omega arith) c.loop-line.invariant.extract

pub returns-in_default-clause-starts : goal.returns-in_default-clause-starts
returns-in_default-clause-starts g c = nothing_started (g.P.PageSource.page c.args.pages.now) c.args.lines.now (g.P.PageSource.starts c.args.pages.now)

pub returns-in_default-of-clause-starts : goal.returns-in_default-of-clause-starts
returns-in_default-of-clause-starts g c = nothing_started (g.P.PageSource.page c.args.pages.now) c.args.lines.now (g.P.PageSource.starts c.args.pages.now)
