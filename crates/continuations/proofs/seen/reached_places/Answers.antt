use Rattle.std.proofs.Common.{◌∙◌, ap, sym, subst, length, List}
use Rattle.std.proofs.lemmas.List.{length-map}
use Rattle.std.proofs.lemmas.Result.{IfOk-weaker}
use Rattle.std.specs.Borrow.{Bor}
use Rattle.ix_base.specs.declared.tree.Spot.{Spot}
use Rattle.ix_base.specs.LocatedElements.{located}
use Rattle.id_table.specs.Tables.{all_located}
use Rattle.continuations.specs.Places.{HoldsMarked}
use Rattle.continuations.proofs.Standing.{of-links, reached-stands}
use Rattle.continuations.proofs.seen.reached_places.Goals as goal

pub marked_places-requires : goal.marked_places-requires
marked_places-requires c =
    c.requires.len ∙ c.requires.links.nexts.length_is ∙ length-map c.args.links.now.spots.items (λ (s : Bor Spot). located s.now)
    ∙ sym (ap length c.as_slice.ensures.value)

pub returns : goal.returns
returns c =
    let l = c.args.links.now in
    IfOk-weaker _ _ _
    (λ p h. reached-stands p c.args.index.now.spots (all_located l.spots.items) l.continuations l.nexts.items c.args.marks.now
    (of-links c.args.index.now.spots l c.requires.links) c.requires.marked
    (subst (λ (xs : List (Bor Spot)). HoldsMarked p (all_located xs) c.args.marks.now (length (all_located xs))) c.as_slice.ensures.value h))
    c.marked_places.ensures
