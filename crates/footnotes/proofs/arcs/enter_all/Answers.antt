use Rattle.std.proofs.Common.{◌∙◌, ◌++◌, ap, sym, append-nil, take}
use Rattle.std.proofs.lemmas.List.{take_all}
use Rattle.id_table.specs.Tables.{all_located}
use Rattle.id_table.proofs.RowLemmas.{located-take}
use Rattle.footnotes.specs.ArcGroups.{arcs_along, arcs_from, groups_at}
use Rattle.footnotes.specs.NamedEnds.{seen}
use Rattle.footnotes.proofs.GroupLaws.{arcs_from-append, joined}
use Rattle.footnotes.proofs.arcs.enter_all.Goals as goal

pub loop-source-init : goal.loop-source-init
loop-source-init c = λ q. sym (append-nil (arcs_along (groups_at c.args.table.now q)))

pub loop-source-preserved : goal.loop-source-preserved
loop-source-preserved c = λ q.
    let r = c.args.relationship.now in
    let xs = all_located r.ends.spots.now in
    let ss = r.sources.spots.now in
    let i = c.loop-source.source-index in
    let old = arcs_along (groups_at c.args.table.now q) in
    joined old _ _ _ _ (c.loop-source.invariant q) (c.in_ok-enter_from.ensures q)
    ∙ ap (λ l. old ++ l) (sym (ap (arcs_from (seen r) xs q) (located-take ss i c.source-item.result c.loop-source-test.true c.source-item.is)
    ∙ arcs_from-append (seen r) xs q (all_located (take i ss)) _))

pub returns : goal.returns
returns c = λ q.
    let r = c.args.relationship.now in
    c.loop-source.invariant q
    ∙ ap (λ ss. arcs_along (groups_at c.args.table.now q) ++ arcs_from (seen r) (all_located r.ends.spots.now) q (all_located ss))
    (take_all c.loop-source.source-index r.sources.spots.now c.loop-source-test.false)
