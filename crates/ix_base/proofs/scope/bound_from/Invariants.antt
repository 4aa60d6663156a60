use Rattle.std.proofs.Common.{◌≡◌}
use Rattle.std.specs.List.{Contains}
use Rattle.ix_base.specs.Scope.{namespace_of}
use Rattle.ix_base.specs.Spaces.{Space, spaces_above}
use Rattle.ix_base.specs.Trees.{bindings_above}
use Rattle.ix_base.proofs.scope.bound_from.Given as goal

-- nothing passed declares the prefix, and what is left is of the first level
abbrev pub invariant-loop-at : goal.invariant-loop-at
invariant-loop-at l = record {
  value : namespace_of (bindings_above l.at) l.prefix ≡ namespace_of (bindings_above l.first) l.prefix;
  spaces : (x : Space) → Contains (spaces_above l.at) x → Contains (spaces_above l.first) x;
}
