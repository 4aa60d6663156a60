use Rattle.std.proofs.Common.{subst}
use Rattle.instance_in.proofs.ReadLaws.{same-text}
use Rattle.instance_in.specs.Outcomes.{HasText}
use Rattle.instance_in.proofs.read.Goals as goal

pub returns-in-Ok-Some-clause-only : goal.returns-in-Ok-Some-clause-only
returns-in-Ok-Some-clause-only c = λ d h.
    same-text c.args.bytes.now c.in-Ok-Some.content d (subst (HasText c.args.bytes.now) c.in-Ok-Some.field-0-is c.in-Ok-Some.ensures) h
