use Rattle.std.proofs.Common.{◌∙◌, ap, map, refl, ◌++◌}
use Rattle.instance_lines.specs.declared.sort.Keyed.{Keyed}
use Rattle.instance_lines.proofs.Steps.{all_moved, map_added}
use Rattle.instance_lines.proofs.sort.push_parts.Goals as goal

pub loop-one-preserved : goal.loop-one-preserved
loop-one-preserved g c = record {
  keys = map_added (λ (k : Keyed g.row.T.Denot). k.key) c.loop-one.yielded c.in-Some.one c.args.keys.now.items _ _ _ c.loop-one.invariant.keys
      c.in_ok-push.ensures.items refl;
  items = map_added (λ (k : Keyed g.row.T.Denot). k.item) c.loop-one.yielded c.in-Some.one c.args.items.now.items _ _ _ c.loop-one.invariant.items
      c.in_ok-push-2.ensures.items refl;
}

pub returns-clause-keys : goal.returns-clause-keys
returns-clause-keys g c =
    c.loop-one.invariant.keys
    ∙ ap (λ l. c.args.keys.now.items ++ map (λ (k : Keyed g.row.T.Denot). k.key) l)
    (all_moved _ _ c.next.new.self c.args.keyed.items _ c.into_iter-one-iterator.ensures.into_iter_gives.0 c.loop-one.yielded_by c.in-None.is
    c.next.ensures.steps)

pub returns-clause-items : goal.returns-clause-items
returns-clause-items g c =
    c.loop-one.invariant.items
    ∙ ap (λ l. c.args.items.now.items ++ map (λ (k : Keyed g.row.T.Denot). k.item) l)
    (all_moved _ _ c.next.new.self c.args.keyed.items _ c.into_iter-one-iterator.ensures.into_iter_gives.0 c.loop-one.yielded_by c.in-None.is
    c.next.ensures.steps)
