use Rattle.std.proofs.Common.{◌∙◌, ap, sym}
use Rattle.ix_base.specs.declared.kind.Kind.TheVariants.{NonNumeric}
use Rattle.ix_base.specs.ElementRules.{breaks_place, breaks_required}
use Rattle.ix_base.specs.Elements.{placed}
use Rattle.ix_grammar.specs.SoundFacts.{has_odd}
use Rattle.ix_grammar.proofs.SoundLaws.{text_sound}
use Rattle.ix_grammar.proofs.SpotLaws.{above-is, tree-is}
use Rattle.ix_grammar.proofs.sound.is_sound_text.Goals as goal

pub returns : goal.returns
returns c = λ fit place.
    let s = c.args.spot.now in
    text_sound (placed s) place c.requires
    (ap (has_odd NonNumeric) (tree-is s) ∙ c.are_sound.ensures.odd fit)
    (ap (breaks_required NonNumeric) (tree-is s) ∙ c.are_sound.ensures.required fit)
    (ap (breaks_place NonNumeric) (above-is s) ∙ sym c.if-breaks_place.ensures)
