use Rattle.std.proofs.Common.{◌∙◌, sym}
use Rattle.std.specs.Prelude.{is_some}
use Rattle.ix_base.specs.Elements.{placed}
use Rattle.std.specs.Borrow.{Bor}
use Rattle.ix_base.specs.declared.tree.Spot.{Spot}
use Rattle.ix_base.specs.LocatedElements.{Located, located}
use Rattle.tuples.specs.Model.{owner_in}
use Rattle.target_contents.proofs.AmongLaws.{not-is, not-isnt, outer-more, outer-same, some-same}
use Rattle.target_contents.proofs.contents.push_outer.Goals as goal

pub returns-in_ok-push : goal.returns-in_ok-push
returns-in_ok-push c =
    let owner = owner_in c.args.members.now (located c.args.spot.now) in
    let same = some-same (λ (s : Bor Spot). placed s.now) (λ (o : Located). o.placed) c.owner.result owner c.owner.ensures.placed in
    outer-more c.args.outer.now.items c.push.new.self.items c.args.spot (is_some owner) c.in_ok-push.ensures.items
    (sym same ∙ not-is (is_some c.owner.result) c.is_none.result c.is_none.ensures c.if-is_none.true)

pub returns-else-is_none : goal.returns-else-is_none
returns-else-is_none c =
    let owner = owner_in c.args.members.now (located c.args.spot.now) in
    let same = some-same (λ (s : Bor Spot). placed s.now) (λ (o : Located). o.placed) c.owner.result owner c.owner.ensures.placed in
    outer-same c.args.outer.now.items c.args.spot (is_some owner) (sym same ∙ not-isnt (is_some c.owner.result) c.is_none.result c.is_none.ensures c.if-is_none.false)
