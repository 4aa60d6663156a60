use Rattle.std.proofs.lemmas.Result.{on_ok_weaker}
use Rattle.ix_base.specs.LocatedElements.{located}
use Rattle.id_table.specs.Tables.{all_located}
use Rattle.footnotes.specs.ArcGroups.{groups_at}
use Rattle.footnotes.specs.NamedEnds.{seen}
use Rattle.footnotes.proofs.GroupLaws.{group-entered, group-is}
use Rattle.footnotes.proofs.arcs.enter_from.Goals as goal

pub returns : goal.returns
returns c =
    let r = c.args.relationship.now in
    on_ok_weaker c.push_at.result (λ h q.
    group-entered (seen r) (all_located r.ends.spots.now) q c.target_at.result.now (located c.args.source.now) _ (groups_at c.args.table.now q) (groups_at c.push_at.new.self q)
    (h q) c.target_at.ensures (group-is (seen r) c.args.attributes c.args.source r.ends.spots c.requires)) c.push_at.ensures.ok
