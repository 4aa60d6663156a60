use Rattle.std.proofs.Common.{◌≡◌, map, take, List, ℕ}
use Rattle.ix_base.specs.declared.content.Context.{Context}
use Rattle.instance_lines.specs.Canonical.{context_markup, line}
use Rattle.instance_lines.specs.declared.sort.Keyed.{Keyed}
use Rattle.instance_lines.proofs.context.context_lines.Given as goal

abbrev pub invariant-loop-context : goal.invariant-loop-context
invariant-loop-context l =
    l.keyed.items ≡ map {B = Keyed (List ℕ)} (λ (x : Context). record { key = x.id; item = line (context_markup l.prefixes x) })
    (take l.context-index l.contexts)
