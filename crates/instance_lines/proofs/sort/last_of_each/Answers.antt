use Rattle.std.proofs.Common.{◌∙◌, ap, sym}
use Rattle.instance_lines.specs.Keys.{by_key, lasts, with_last}
use Rattle.instance_lines.proofs.LastLaws.{lasts-push}
use Rattle.instance_lines.proofs.Steps.{all_moved}
use Rattle.instance_lines.proofs.sort.last_of_each.Goals as goal

pub loop-one-preserved : goal.loop-one-preserved
loop-one-preserved g c =
    c.in_ok-put_last.ensures ∙ ap (λ l. with_last by_key l c.in-Some.one) c.loop-one.invariant
    ∙ sym (lasts-push by_key c.loop-one.yielded c.in-Some.one)

pub returns : goal.returns
returns g c =
    c.loop-one.invariant
    ∙ ap (lasts by_key)
    (all_moved _ _ c.next.new.self c.args.keyed.items _ c.into_iter-one-iterator.ensures.into_iter_gives.0 c.loop-one.yielded_by c.in-None.is
    c.next.ensures.steps)
