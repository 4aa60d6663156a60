use Rattle.std.proofs.Common.{◌≡◌, ◌++◌, List, ℕ, drop}
use Rattle.ix_base.specs.WrittenMarkup.{written}
use Rattle.instance_lines.specs.Canonical.{measures_markup}
use Rattle.instance_lines.proofs.unit.push_measures.Given as goal

abbrev pub invariant-loop-measure : goal.invariant-loop-measure
invariant-loop-measure l =
    (more : List ℕ) → l.out ++ written (measures_markup l.prefixes (drop l.measure-index l.measures)) more ≡ l.initial.out ++ written (measures_markup l.prefixes l.measures) more
