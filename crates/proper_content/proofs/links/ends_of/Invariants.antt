use Rattle.std.proofs.Common.{◌≡◌, ◌++◌, ◌∷◌, [], drop}
use Rattle.std.specs.Prelude.{flat_map}
use Rattle.instance_lines.specs.Tables.{values_of}
use Rattle.proper_content.proofs.links.ends_of.Given as goal

abbrev pub invariant-loop-arc : goal.invariant-loop-arc
invariant-loop-arc l = values_of l.ids.items ++ flat_map (λ a. a.from_id ∷ a.to_id ∷ []) (drop l.arc-index l.arcs) ≡ flat_map (λ a. a.from_id ∷ a.to_id ∷ []) l.arcs
