use Rattle.std.proofs.Common.{◌≡◌, ◌++◌, List, ℕ, drop}
use Rattle.ix_base.specs.WrittenMarkup.{nothing, written}
use Rattle.instance_lines.specs.Canonical.{dim_markup, each_markup}
use Rattle.instance_lines.proofs.context.push_dims.Given as goal

abbrev pub invariant-loop-dim : goal.invariant-loop-dim
invariant-loop-dim l =
    (more : List ℕ) → l.out ++ written (each_markup (dim_markup l.prefixes) (drop l.dim-index l.dims) nothing) more ≡ l.initial.out ++ written (each_markup (dim_markup l.prefixes) l.dims nothing) more
