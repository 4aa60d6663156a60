use Rattle.std.proofs.Common.{◌≡◌, ◌++◌, drop}
use Rattle.std.specs.Prelude.{flat_map}
use Rattle.instance_lines.specs.Tables.{values_of}
use Rattle.proper_texts.proofs.held.arcs_in.Given as goal

abbrev pub invariant-loop-link : goal.invariant-loop-link
invariant-loop-link l = values_of l.arcs.items ++ flat_map (λ k. k.arcs) (drop l.link-index l.links) ≡ flat_map (λ k. k.arcs) l.links
