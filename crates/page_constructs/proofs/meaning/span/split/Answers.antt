use Rattle.std.proofs.Common.{ap, sym, subst, ◌∙◌, length, take, drop}
use Rattle.std.specs.Str.{IsCharBoundary}
use Rattle.page_constructs.specs.Meanings.{before}
use Rattle.page_constructs.specs.Stops.{stops}
use Rattle.page_constructs.proofs.Parting.{cut-stop, take-before, drop-before}
use Rattle.page_constructs.proofs.meaning.span.split.Goals as goal

pub split_at-requires : goal.split_at-requires
split_at-requires c =
    subst (IsCharBoundary c.args.text.now) (ap (λ t. length (before (stops c.args.stop) t)) (sym c.as_bytes.ensures.value) ∙ sym c.size_before.ensures) (cut-stop c.args.stop c.args.text.now c.utf8.text)

pub returns-clause-before : goal.returns-clause-before
returns-clause-before c =
    c.split_at.ensures.front ∙ ap (λ n. take n c.args.text.now) (c.size_before.ensures ∙ ap (λ t. length (before (stops c.args.stop) t)) c.as_bytes.ensures.value) ∙ take-before (stops c.args.stop) c.args.text.now

pub returns-clause-from : goal.returns-clause-from
returns-clause-from c =
    c.split_at.ensures.back ∙ ap (λ n. drop n c.args.text.now) (c.size_before.ensures ∙ ap (λ t. length (before (stops c.args.stop) t)) c.as_bytes.ensures.value) ∙ drop-before (stops c.args.stop) c.args.text.now
