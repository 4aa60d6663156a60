use Rattle.std.proofs.Common.{◌∙◌, ap}
use Rattle.std.proofs.lemmas.Int.{to_z-of_z}
use Rattle.ix_base.specs.Decimals.{front_of, back_of}
use Rattle.scale_sign.proofs.Laws.{digits-at, signed-is}
use Rattle.scale_sign.proofs.scaled.Goals as goal

pub is_negative-requires : goal.is_negative-requires
is_negative-requires c =
    let v = c.as_bytes.ensures.value in
    let f = c.parts_of.ensures.front ∙ ap front_of v in
    let b = c.parts_of.ensures.back ∙ ap back_of v in
    digits-at c.args.digits.now _ _ c.requires.unsigned f b

pub returns-clause-number : goal.returns-clause-number
returns-clause-number c =
    let v = c.as_bytes.ensures.value in
    let f = c.parts_of.ensures.front ∙ ap front_of v in
    let b = c.parts_of.ensures.back ∙ ap back_of v in
    let wrote = simp (to_z-of_z, c.ranges.scale) at c.write_moved.ensures.wrote in
    signed-is c.args.digits.now _ _ c.args.scale c.args.negative c.is_negative.result _ _ c.requires.unsigned f b c.is_negative.ensures c.put_sign-start.ensures.wrote wrote
