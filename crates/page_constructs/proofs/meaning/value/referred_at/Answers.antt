use Rattle.std.proofs.Common.{ap, ◌∙◌, ◌≡◌, Some, None}
use Rattle.page_constructs.specs.Spans.{after_char}
use Rattle.page_constructs.specs.Values.{referred}
use Rattle.page_constructs.proofs.ValueLaws.{closed-at, Put}
use Rattle.page_constructs.proofs.meaning.value.referred_at.Goals as goal

pub returns-in_err-inner-clause-value : goal.returns-in_err-inner-clause-value
returns-in_err-inner-clause-value c =
    let parts = closed-at c.args.text.now _ c.split_once.ensures.cases in
    ap after_char c.from_residual.ensures ∙ rw c.in_err-inner.was at parts

pub returns-in_err-ch-clause-value : goal.returns-in_err-ch-clause-value
returns-in_err-ch-clause-value c =
    let parts = closed-at c.args.text.now _ c.split_once.ensures.cases in
    let found = rw c.in_ok-inner.was at parts in
    let bad : None ≡ referred c.in_ok-inner.inner.now = c.in_err-ch.ensures ∙ ap referred c.as_bytes.ensures.value in
    ap after_char c.from_residual-in_err-ch.ensures ∙ ap (λ o. Put o c.in_ok-inner.rest.now) bad ∙ found.0

pub returns-clause-value : goal.returns-clause-value
returns-clause-value c =
    let parts = closed-at c.args.text.now _ c.split_once.ensures.cases in
    let found = rw c.in_ok-inner.was at parts in
    let good : Some c.in_ok-ch.ch ≡ referred c.in_ok-inner.inner.now = c.in_ok-ch.ensures ∙ ap referred c.as_bytes.ensures.value in
    ap (λ o. Put o c.in_ok-inner.rest.now) good ∙ found.0
