use Rattle.std.proofs.Common.{◌∙◌, ap, map, refl}
use Rattle.instance_lines.specs.declared.sort.Keyed.{Keyed}
use Rattle.instance_lines.proofs.Steps.{all_moved, map_pushed}
use Rattle.instance_lines.proofs.sort.items_of.Goals as goal

pub loop-one-preserved : goal.loop-one-preserved
loop-one-preserved g c =
    map_pushed (λ (k : Keyed g.row.T.Denot). k.item) c.loop-one.yielded c.in-Some.one _ _ _ c.loop-one.invariant c.in_ok-push.ensures.items refl

pub returns : goal.returns
returns g c =
    c.loop-one.invariant
    ∙ ap (map (λ (k : Keyed g.row.T.Denot). k.item))
    (all_moved _ _ c.next.new.self c.args.keyed.items _ c.into_iter-one-iterator.ensures.into_iter_gives.0 c.loop-one.yielded_by c.in-None.is
    c.next.ensures.steps)
