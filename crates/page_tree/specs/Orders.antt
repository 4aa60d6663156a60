-- What a tag declares, each prefix once.
use Rattle.std.specs.Prelude.{ℕ, List, [], ◌∷◌}
use Rattle.std.specs.Borrow.{Bor}
use Rattle.ix_base.specs.Bindings.{Bound}
use Rattle.ix_base.specs.Scope.{bound_over}

-- a prefix with what it is bound to
abbrev pub entered : Bor (List ℕ) × Bor (List ℕ) → Bound
entered e = record { prefix = e.0.now; ns = e.1.now }

-- bindings put over others, one after another
abbrev pub bound_under : List Bound → List Bound → List Bound
bound_under scope [] = scope
bound_under scope (b ∷ more) = bound_under (bound_over scope b) more
