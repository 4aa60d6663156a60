use Rattle.std.proofs.Common.{◌≡◌, drop, map}
use Rattle.ix_base.specs.Bindings.{bound}
use Rattle.ix_base.specs.Scope.{namespace_of}
use Rattle.ix_base.proofs.scope.first_of.Given as goal

abbrev pub invariant-loop-binding : goal.invariant-loop-binding
invariant-loop-binding l =
    namespace_of (map bound (drop l.binding-index l.bindings)) l.prefix ≡ namespace_of (map bound l.bindings) l.prefix
