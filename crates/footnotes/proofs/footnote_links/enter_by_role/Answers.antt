use Rattle.std.proofs.Common.{◌∙◌, ◌++◌, ap, append-nil, sym}
use Rattle.std.proofs.lemmas.List.{take_all}
use Rattle.std.specs.Prelude.{bytes_eq}
use Rattle.std.specs.List.{filter}
use Rattle.std.proofs.lemmas.List.Elements.{filter-append}
use Rattle.footnotes.specs.declared.arcs.ArcGroup.{ArcGroup}
use Rattle.footnotes.specs.ArcGroups.{groups_at}
use Rattle.footnotes.proofs.LinkLaws.{step-from}
use Rattle.footnotes.proofs.RoleLaws.{grouped}
use Rattle.footnotes.proofs.footnote_links.enter_by_role.Goals as goal

pub loop-group-preserved : goal.loop-group-preserved
loop-group-preserved c = λ q.
    let p = λ (f : ArcGroup). bytes_eq q f.attributes.role.now in
    step-from (filter p) (filter-append p) c.args.groups.now c.loop-group.group-index c.group-item.result c.loop-group-test.true c.group-item.is _ _ _
    (c.loop-group.invariant q)
    (grouped (groups_at c.loop-group.table q) (groups_at c.push_at.new.self q) c.group-item.result (p c.group-item.result) (c.in_ok-push_at.ensures.ok q))

pub loop-group-init : goal.loop-group-init
loop-group-init c = λ q. sym (append-nil (groups_at c.args.table.now q))

pub returns : goal.returns
returns c = λ q.
    c.loop-group.invariant q
    ∙ ap (λ gs. groups_at c.args.table.now q ++ filter (λ (f : ArcGroup). bytes_eq q f.attributes.role.now) gs)
    (take_all c.loop-group.group-index c.args.groups.now c.loop-group-test.false)
