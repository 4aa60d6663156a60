use Rattle.std.proofs.Common.{◌∙◌, Ok}
use Rattle.page_verdicts.specs.Verdicts.{IsOfSet, IsShown, IsTraced}
use Rattle.page_verdicts.proofs.VerdictLaws.{made_by, set_by, shown_by, traced_by}
use Rattle.page_verdicts.proofs.verdict.verdict_from.Goals as goal

pub returns-in_default-clause-makes : goal.returns-in_default-clause-makes
returns-in_default-clause-makes c =
    made_by c.args.command.now c.as_slice-names.result.now c.args.forest (IsShown c.as_slice-names.result.now) c.shown.result
    (c.as_slice-names.ensures.value ∙ c.in_ok-names.ensures) (λ bs v h. shown_by c.args.command.now _ bs v c.in_default.ensures h) c.shown.ensures.shown

pub returns-in-Trace-clause-makes : goal.returns-in-Trace-clause-makes
returns-in-Trace-clause-makes c =
    made_by c.args.command.now c.as_slice-names.result.now c.args.forest (IsTraced c.in-Some.base.now c.as_slice-names.result.now) c.traced.result
    (c.as_slice-names.ensures.value ∙ c.in_ok-names.ensures)
    (λ bs v h. traced_by c.args.command.now _ _ c.in-Some.base.now _ bs v c.in-Trace.is c.in-Some.ensures h) c.traced.ensures.makes

pub returns : goal.returns
returns c = record {
  makes = made_by c.args.command.now c.as_slice-names.result.now c.args.forest (IsOfSet c.in-Some.base.now c.as_slice-names.result.now) (Ok c.verdict_of.result)
      (c.as_slice-names.ensures.value ∙ c.in_ok-names.ensures)
      (λ bs v h. set_by c.args.command.now c.in-Some.base.now _ bs v c.in-Some.ensures c.in_default-command.not-Trace c.requires.session h)
      (λ bs read. (c.in_ok-judge-in_default-command.field-0, c.in_ok-judge-in_default-command.ensures.says bs read, c.verdict_of.ensures.value));
  written = c.verdict_of.ensures.written c.in_ok-judge-in_default-command.ensures.written;
}
