use Rattle.std.proofs.Common.{◌∙◌, ap, refl}
use Rattle.instance_lines.specs.Keys.{keyed_by}
use Rattle.instance_lines.specs.declared.sort.Keyed.{Keyed}
use Rattle.instance_lines.proofs.Steps.{all_moved, map_pushed}
use Rattle.instance_lines.proofs.sort.keyed_by.Goals as goal

pub loop-item-preserved : goal.loop-item-preserved
loop-item-preserved g c =
    let f : g.row.T.Denot → Keyed g.row.T.Denot = λ x. record { key = g.K.KeyOf.key x; item = x } in
    map_pushed f c.loop-item.yielded c.in-Some.item c.loop-item.keyed.items c.push.new.self.items
    (record { key = c.in_ok-key.key; item = c.in-Some.item }) c.loop-item.invariant c.in_ok-push.ensures.items (rw (c.in_ok-key.ensures) refl)

pub returns : goal.returns
returns g c =
    c.loop-item.invariant
    ∙ ap (keyed_by g.K.KeyOf.key)
    (all_moved _ _ c.next.new.self c.args.items _ (c.into_iter-item-iterator.ensures.into_iter_gives.0 ∙ c.into_vec-item-items.ensures)
    c.loop-item.yielded_by c.in-None.is c.next.ensures.steps)
