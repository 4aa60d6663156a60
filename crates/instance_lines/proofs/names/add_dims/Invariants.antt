use Rattle.std.proofs.Common.{◌≡◌, ◌++◌, List, drop}
use Rattle.std.specs.Prelude.{flat_map}
use Rattle.ix_base.specs.declared.content.OwnName.{OwnName}
use Rattle.instance_lines.specs.Canonical.{dim_names}
use Rattle.instance_lines.specs.Tables.{values_of}
use Rattle.instance_lines.proofs.names.add_dims.Given as goal

abbrev pub invariant-loop-dim : goal.invariant-loop-dim
invariant-loop-dim l =
    (more : List OwnName) → values_of l.names.items ++ (flat_map dim_names (drop l.dim-index l.dims) ++ more) ≡ values_of l.initial.names.items ++ (flat_map dim_names l.dims ++ more)
