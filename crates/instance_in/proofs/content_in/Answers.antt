use Rattle.std.proofs.Common.{◌∙◌, subst, sym}
use Rattle.instance_in.proofs.ReadLaws.{no-text, text-denotes, text-of}
use Rattle.instance_in.specs.Outcomes.{Denotes}
use Rattle.instance_in.proofs.content_in.Goals as goal

pub returns-in_default : goal.returns-in_default
returns-in_default c = λ d h. subst (Denotes c.args.bytes.now) c.in_default.is c.in_ok-content.ensures d (text-denotes c.args.bytes.now d h)

pub returns-then-branch : goal.returns-then-branch
returns-then-branch c =
    text-of c.args.bytes.now c.in-Some.content (subst (Denotes c.args.bytes.now) c.in-Some.is c.in_ok-content.ensures)
    (sym c.in_ok-is_canonical.ensures ∙ c.if-branch.true)

pub returns-else-branch : goal.returns-else-branch
returns-else-branch c =
    no-text c.args.bytes.now c.in-Some.content (subst (Denotes c.args.bytes.now) c.in-Some.is c.in_ok-content.ensures)
    (sym c.in_ok-is_canonical.ensures ∙ c.if-branch.false)
