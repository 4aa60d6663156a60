use Rattle.std.proofs.Common.{◌∙◌, ap, Option, Some, None, IfNone}
use Rattle.facts.specs.Formats.{name_in}
use Rattle.facts.proofs.FormatLaws.{one_registry}
use Rattle.facts.proofs.format.Format.named.Goals as goal

pub returns-in-Some-clause-none : goal.returns-in-Some-clause-none
returns-in-Some-clause-none c = by c.format_in.result c.format_in.ensures.none
    (λ h format is. h format (is.local ∙ ap (λ r. name_in r format) (one_registry c.args.name.ns.now is.registry c.in-Some.registry is.namespace c.in-Some.ensures.found)))
  where
    by : {X : Type 0} {P Q : Type 0} (o : Option X) → IfNone o P → (P → Q) → IfNone o Q
    by None h f = f h
    by (Some x) h f = tt
