use Rattle.std.proofs.Common.{◌∙◌, ◌++◌, ap}
use Rattle.id_table.specs.Tables.{all_located}
use Rattle.target_contents.specs.LinkedSets.{all_of}
use Rattle.target_contents.proofs.AmongLaws.{all-outer}
use Rattle.target_contents.proofs.contents.outer_of.Goals as goal

pub returns-then-not-has_tuples : goal.returns-then-not-has_tuples
returns-then-not-has_tuples c =
    let l = c.args.linked.now in
    let spots = c.args.spots.now in
    ap all_located (c.in_ok-extend_from_slice.ensures.items ∙ ap (λ xs. xs ++ spots) c.in_ok-outer.ensures.items)
    ∙ all-outer l.members (all_of l) spots c.requires.members (c.has_tuples.ensures.unowned c.if-not-has_tuples.true) c.requires.among
