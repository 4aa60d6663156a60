use Rattle.std.proofs.Common.{◌∙◌, inl, inr, ℕ, List, Option, Some, sym, refl, subst}
use Rattle.std.proofs.lemmas.Result.{IfErr-weaker, IfOk-weaker, on_ok_weaker}
use Rattle.page_session.specs.Sources.{source_told}
use Rattle.page_session.specs.declared.script.ScriptLine.{ScriptLine}
use Rattle.ixds_run.specs.ScriptRuns.{AreLines, IsEnded, OfLines, Started}
use Rattle.ixds_run.specs.DueTables.{outcome_of}
use Rattle.ixds_run.specs.SessionBytes.{OfScript, to_read}
use Rattle.ixds_run.specs.SessionOutcomes.{IsSession}
use Rattle.ixds_run.proofs.FollowedLaws.{bad_due, bad_starts, good_due, good_gains, good_starts, good_stopped, starts_script, unread_script}
use Rattle.ixds_run.proofs.ScriptLaws.{script_lines}
use Rattle.ixds_run.proofs.session.follow.Goals as goal

pub returns-in_default : goal.returns-in_default
returns-in_default g c = record {
  due = tt;
  silent = tt;
  all_starts = tt;
  starts = starts_script _ _ _ _ (inl refl);
  ok = tt;
  stopped = refl;
  pages = refl;
  numbers = refl;
}

pub returns-in-Err-Failed : goal.returns-in-Err-Failed
returns-in-Err-Failed g c =
    let read = rw c.in-Err-Failed.field-0-is at c.in-Err-Failed.ensures in
    record {
      due = tt;
      silent = tt;
      all_starts = tt;
      starts = starts_script _ _ _ _ read.tries.starts;
      ok = tt;
      stopped = (
        read.tries.cause,
        unread_script c.args.script.now c.in-Ok.line.items (source_told g.P.PageSource c.args.pages.now) (source_told g.P.PageSource c.read_script.new.pages)
            (read.tries.named refl) c.in-Ok.ensures read.tries.failed,
      );
      pages = read.tries.pages;
      numbers = read.tries.numbers;
    }

pub returns-in-Err-NoMemory : goal.returns-in-Err-NoMemory
returns-in-Err-NoMemory g c =
    let read = rw c.in-Err-NoMemory.field-0-is at c.in-Err-NoMemory.ensures in
    record {
      due = tt;
      silent = tt;
      all_starts = tt;
      starts = starts_script _ _ _ _ read.tries.starts;
      ok = tt;
      stopped = read.tries.cause;
      pages = read.tries.pages;
      numbers = read.tries.numbers;
    }

pub follow_lines-requires-clause-lines : goal.follow_lines-requires-clause-lines
follow_lines-requires-clause-lines g c =
    let read = rw c.in-Ok-Good.field-0-is at c.in-Ok-Good.ensures in
    subst (λ (ls : List ScriptLine). AreLines ls) (sym c.as_slice.ensures) (script_lines read.says.0 c.in-Ok-Good.lines (sym read.says.2))

pub returns : goal.returns
returns g c =
    let page : List ℕ → Option (List ℕ) = g.P.PageSource.page c.args.pages.now in
    let base : List ℕ = c.args.base.now in
    let script : List ℕ = c.args.script.now in
    let lines : List ScriptLine = c.in-Ok-Good.lines in
    let old : Option (List (List ℕ)) = g.P.PageSource.starts c.args.pages.now in
    let mid : Option (List (List ℕ)) = g.P.PageSource.starts c.read_script.new.pages in
    let new : Option (List (List ℕ)) = g.P.PageSource.starts c.follow_lines.new.pages in
    let read = rw c.in-Ok-Good.field-0-is at c.in-Ok-Good.ensures in
    let ended = rw (read.tries.pages, c.as_slice.ensures) at c.follow_lines.ensures.due in
    record {
      due = IfOk-weaker c.follow_lines.result (λ due. OfLines page lines (IsEnded base script lines mid new due))
          (λ due. OfScript page script (λ text bs. (dir : List ℕ) → IsSession base dir script text bs (outcome_of (Some dir) due)))
          (λ due h. good_due page script lines read.says base mid new due h) ended;
      silent = c.follow_lines.ensures.silent;
      all_starts = IfOk-weaker c.follow_lines.result (λ due. OfLines page lines (IsEnded base script lines mid new due))
          (λ due. OfScript page script (λ text bs. Started (to_read script text bs) old new))
          (λ due h. good_starts page script lines read.says base old mid new due read.tries.started h) ended;
      starts = good_gains _ _ _ read.says _ _ _ read.tries.started (rw (read.tries.pages, c.as_slice.ensures) at c.follow_lines.ensures.starts);
      ok = on_ok_weaker c.follow_lines.result (λ same. same ∙ read.tries.cause) c.follow_lines.ensures.ok;
      stopped = IfErr-weaker c.follow_lines.result _ _ (λ why w. good_stopped _ _ _ read.says (source_told g.P.PageSource c.args.pages.now)
          (source_told g.P.PageSource c.read_script.new.pages) (source_told g.P.PageSource c.follow_lines.new.pages) why refl read.tries.pages read.tries.cause read.tries.told w)
          (rw c.as_slice.ensures at c.follow_lines.ensures.stopped);
      pages = c.follow_lines.ensures.pages ∙ read.tries.pages;
      numbers = c.follow_lines.ensures.numbers ∙ read.tries.numbers;
    }

pub returns-in-Ok-due_of_line : goal.returns-in-Ok-due_of_line
returns-in-Ok-due_of_line g c =
    let read = rw c.in-Ok-Bad.field-0-is at c.in-Ok-Bad.ensures in
    record {
      due = bad_due _ _ _ read.says _ c.in-Ok-due_of_line.due c.in-Ok-due_of_line.ensures.due;
      silent = c.in-Ok-due_of_line.ensures.silent;
      all_starts = bad_starts _ _ _ read.says _ _ read.tries.started;
      starts = starts_script _ _ _ _ (inr read.tries.started);
      ok = read.tries.cause;
      stopped = tt;
      pages = read.tries.pages;
      numbers = read.tries.numbers;
    }

pub returns-in-Ok-Bad : goal.returns-in-Ok-Bad
returns-in-Ok-Bad g c =
    let read = rw c.in-Ok-Bad.field-0-is at c.in-Ok-Bad.ensures in
    record {
      due = tt;
      silent = tt;
      all_starts = tt;
      starts = starts_script _ _ _ _ (inr read.tries.started);
      ok = tt;
      stopped = read.tries.cause;
      pages = read.tries.pages;
      numbers = read.tries.numbers;
    }
