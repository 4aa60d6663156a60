use Rattle.std.proofs.Common.{◌≡◌, drop}
use Rattle.std.specs.List.{list_all}
use Rattle.ix_base.specs.Forms.{is_canonical_decimal}
use Rattle.instance_lines.specs.Tables.{values_of}
use Rattle.proper_content.proofs.links.are_ordered.Given as goal

abbrev pub invariant-loop-arc : goal.invariant-loop-arc
invariant-loop-arc l = list_all (λ a. is_canonical_decimal a.order) (values_of (drop l.arc-index l.arcs)) ≡ list_all (λ a. is_canonical_decimal a.order) (values_of l.arcs)
