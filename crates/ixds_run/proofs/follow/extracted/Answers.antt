use Rattle.std.proofs.Common.{◌∙◌, ◌++◌, ap, [], List, ℕ, Some}
use Rattle.page_session.specs.HandedPages.{bytes_of, names_of}
use Rattle.page_session.specs.Sessions.{base_of}
use Rattle.page_verdicts.specs.Verdicts.{IsOfSet}
use Rattle.command_words.specs.declared.command.Command.TheVariants.{Extract}
use Rattle.ixds_run.proofs.DueLaws.{due_behind}
use Rattle.ixds_run.proofs.follow.extracted.Goals as goal

pub returns-clause-due : goal.returns-clause-due
returns-clause-due c = λ pages stands dir.
    let outcome = c.in_ok-outcome.outcome in
    let verdict = c.verdict_of-verdict.result in
    let makes : IsOfSet (base_of c.args.session.now) (names_of pages) (bytes_of pages) verdict = (outcome, c.in_ok-outcome.ensures.says pages stands, c.verdict_of-verdict.ensures.value) in
    record {
      verdict = verdict;
      makes = makes;
      due_is = due_behind dir c.args.front.now _ c.in_ok-due.due _
          (c.in_ok-push.ensures.ok ∙ ap (λ (t : List ℕ). t ++ c.as_str.result.now) c.in_ok-whole.ensures ∙ ap (λ (t : List ℕ). c.args.front.now ++ t) c.as_str.ensures)
          (c.in_ok-due.ensures.due (Some dir));
      read_back = c.said_read_back.ensures (Extract (base_of c.args.session.now) dir []) (names_of pages) (bytes_of pages) verdict makes;
    }
