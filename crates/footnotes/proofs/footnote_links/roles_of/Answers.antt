use Rattle.std.proofs.Common.{◌∙◌, ap}
use Rattle.std.proofs.lemmas.List.{take_all}
use Rattle.footnotes.specs.declared.arcs.ArcGroup.{ArcGroup}
use Rattle.footnotes.specs.ArcLinks.{role_by, roles_along}
use Rattle.footnotes.proofs.LinkLaws.{step-flat}
use Rattle.footnotes.proofs.footnote_links.roles_of.Goals as goal

pub loop-group-preserved : goal.loop-group-preserved
loop-group-preserved c =
    step-flat (λ (g : ArcGroup). role_by g.ends.now g.attributes.role.now) c.args.groups.now c.loop-group.group-index c.group-item.result c.loop-group-test.true c.group-item.is _ _
    c.loop-group.invariant c.in_ok-push_role.ensures

pub returns : goal.returns
returns c = c.loop-group.invariant ∙ ap roles_along (take_all c.loop-group.group-index c.args.groups.now c.loop-group-test.false)
