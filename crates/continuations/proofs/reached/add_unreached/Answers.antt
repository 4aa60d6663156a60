use Rattle.std.proofs.Common.{◌≡◌, refl, sym, subst, length, List, Bool, true}
use Rattle.ix_base.proofs.FrontLemmas.{front-none, on-err}
use Rattle.ix_base.specs.declared.rule.Rule.TheVariants.{L6}
use Rattle.id_table.specs.Tables.{all_located}
use Rattle.continuations.specs.Walks.{AreReached, is_marked}
use Rattle.continuations.proofs.LinkLaws.{nothing-added}
use Rattle.continuations.proofs.ReachLaws.{none-unreached}
use Rattle.continuations.proofs.Standing.{of-links, of-same}
use Rattle.continuations.proofs.reached.add_unreached.Goals as goal

pub returns-then-are_marked-clause-ok : goal.returns-then-are_marked-clause-ok
returns-then-are_marked-clause-ok c =
    let es = c.args.index.now.spots in
    let l = c.args.links.now in
    let xs = all_located l.spots.items in
    nothing-added c.args.breaches.now L6 es
    (none-unreached es xs l.continuations c.as_slice.result.now c.in_ok-marks.marks.items
    (of-same es xs xs l.continuations l.nexts.items c.as_slice.result.now refl c.as_slice.ensures.value (of-links es l c.requires)) c.in_ok-marks.ensures.marked
    (λ k low. subst (λ ms. is_marked ms k ≡ true) c.as_slice-2.ensures.value (c.are_marked.ensures.0 c.if-are_marked.true k low)))

pub returns-in_err-marks-clause-err : goal.returns-in_err-marks-clause-err
returns-in_err-marks-clause-err c = on-err _ (front-none _ _ _ refl)

pub returns-in_err-reached-clause-err : goal.returns-in_err-reached-clause-err
returns-in_err-reached-clause-err c = on-err _ (front-none _ _ _ refl)

pub reached_places-requires-clause-marked : goal.reached_places-requires-clause-marked
reached_places-requires-clause-marked c =
    let l = c.args.links.now in
    subst (λ (ms : List Bool). AreReached l.nexts.items l.continuations (length l.nexts.items) ms) (sym c.as_slice-3.ensures.value)
    (subst (λ ns. AreReached ns l.continuations (length ns) c.in_ok-marks.marks.items) c.as_slice.ensures.value c.in_ok-marks.ensures.marked)
