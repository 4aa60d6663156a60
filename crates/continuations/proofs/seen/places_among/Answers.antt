use Rattle.std.proofs.Common.{◌≡◌, ap, sym, subst, length, List, Bool}
use Rattle.std.proofs.lemmas.Result.{IfOk-weaker}
use Rattle.std.proofs.lemmas.List.{length-map}
use Rattle.std.specs.Borrow.{Bor}
use Rattle.ix_base.specs.declared.tree.Spot.{Spot}
use Rattle.ix_base.specs.LocatedElements.{located}
use Rattle.id_table.specs.Tables.{all_located}
use Rattle.continuations.specs.InnerElements.{AreInner, ArePlaced}
use Rattle.continuations.specs.Places.{HoldsMarked}
use Rattle.continuations.proofs.Inner.{inner-stands}
use Rattle.continuations.proofs.Standing.{AreOf, of-alike, of-links}
use Rattle.continuations.proofs.seen.places_among.Goals as goal

pub returns : goal.returns
returns c =
    let l = c.args.links.now in
    let es = c.args.index.now.spots in
    let w = c.args.courses.now in
    let spots = c.as_slice-spots.result.now in
    let xs = all_located spots in
    let m = c.args.numbers.now in
    let marks = c.in_ok-marks.marks.items in
    let o : AreOf es xs w.first w.nexts.now
    = of-alike es (all_located l.spots.items) xs l.continuations w.first l.nexts.items w.nexts.now
    (ap all_located c.as_slice-spots.ensures.value) c.requires.first c.requires.nexts (of-links es l c.requires.links) in
    let n : length spots ≡ length xs = sym (length-map spots (λ (s : Bor Spot). located s.now)) in
    let placed : ArePlaced m xs (length spots)
    = subst (λ (ss : List (Bor Spot)). ArePlaced m (all_located ss) (length ss)) (sym c.as_slice-spots.ensures.value) c.requires.placed in
    IfOk-weaker _ _ _
    (λ p h. inner-stands p m es xs w.first w.nexts.now marks o
    (subst (ArePlaced m xs) n placed)
    (subst (λ k. AreInner w.nexts.now w.first m xs k marks) n c.in_ok-marks.ensures.inner)
    (subst (λ (ms : List Bool). HoldsMarked p xs ms (length xs)) c.as_slice.ensures.value h))
    c.marked_places.ensures
