use Rattle.std.proofs.Common.{◌∙◌, ◌+◌, ◌++◌, ap, append-nil, drop, sym}
use Rattle.std.specs.Borrow.{Bor}
use Rattle.std.specs.List.{flat_map}
use Rattle.ix_base.proofs.FrontLemmas.{grows-more, grows-front, front-none, on-err}
use Rattle.ix_base.specs.declared.tree.Spot.{Spot}
use Rattle.ix_base.specs.LocatedElements.{located}
use Rattle.id_table.specs.Model.{doubled_at}
use Rattle.id_table.specs.Tables.{all_located}
use Rattle.id_table.proofs.HeldLaws.{none-doubled}
use Rattle.id_table.proofs.RowLemmas.{flat_map-next}
use Rattle.id_table.proofs.index.Index.doubled.Goals as goal

pub returns-in_err-add_if_doubled-clause-err : goal.returns-in_err-add_if_doubled-clause-err
returns-in_err-add_if_doubled-clause-err c =
    let h = c.args.self.now in
    let spots = c.spots-spot-items.result.now in
    let i = c.loop-spot.spot-index in
    on-err _ (grows-front c.args.breaches.now c.loop-spot.breaches c.add_if_doubled.new.breaches (doubled_at h (located c.spot-item.result.now)) _
    (flat_map (doubled_at h) (all_located (drop (i + 1) spots))) (flat_map (doubled_at h) c.args.self.now.spots) c.loop-spot.invariant
    (flat_map-next (doubled_at h) (λ (s : Bor Spot). located s.now) spots i c.spot-item.result c.loop-spot-test.true c.spot-item.is)
    (front-none _ _ _ c.in_err-add_if_doubled.ensures.err))

pub loop-spot-preserved : goal.loop-spot-preserved
loop-spot-preserved c =
    let h = c.args.self.now in
    let spots = c.spots-spot-items.result.now in
    let i = c.loop-spot.spot-index in
    grows-more c.args.breaches.now c.loop-spot.breaches c.add_if_doubled.new.breaches (doubled_at h (located c.spot-item.result.now)) _
    (flat_map (doubled_at h) (all_located (drop (i + 1) spots))) (flat_map (doubled_at h) c.args.self.now.spots) c.loop-spot.invariant
    (flat_map-next (doubled_at h) (λ (s : Bor Spot). located s.now) spots i c.spot-item.result c.loop-spot-test.true c.spot-item.is)
    c.in_ok-add_if_doubled.ensures.ok

pub returns-then-not-has_repeats-clause-ok : goal.returns-then-not-has_repeats-clause-ok
returns-then-not-has_repeats-clause-ok c =
    let h = c.args.self.now in
    sym (ap (λ xs. c.args.breaches.now ++ xs) (none-doubled h (c.has_repeats.ensures.apart c.if-not-has_repeats.true) h.spots) ∙ append-nil c.args.breaches.now)
