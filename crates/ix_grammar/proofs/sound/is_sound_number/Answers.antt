use Rattle.std.proofs.Common.{◌∙◌, ap, sym}
use Rattle.ix_base.specs.declared.kind.Kind.TheVariants.{NonFraction}
use Rattle.ix_base.specs.declared.tree.Spot.{out-Spot}
use Rattle.ix_base.specs.ElementContent.{elements_in}
use Rattle.ix_base.specs.ElementRules.{breaks_place, breaks_required, lacks_accuracy}
use Rattle.ix_base.specs.Elements.{placed}
use Rattle.ix_base.specs.Forms.{is_empty}
use Rattle.ix_grammar.specs.SoundFacts.{has_odd}
use Rattle.ix_grammar.proofs.FoundLaws.{children-is}
use Rattle.ix_grammar.proofs.SoundLaws.{number_sound}
use Rattle.ix_grammar.proofs.SpotLaws.{above-is, tree-is}
use Rattle.ix_grammar.proofs.sound.is_sound_number.Goals as goal

pub returns : goal.returns
returns c = λ fit place.
    let s = c.args.spot.now in
    number_sound (placed s) place c.requires
    (ap (has_odd NonFraction) (tree-is s) ∙ c.are_sound.ensures.odd fit)
    (ap (breaks_required NonFraction) (tree-is s) ∙ c.are_sound.ensures.required fit)
    (ap (lacks_accuracy NonFraction) (tree-is s) ∙ c.are_sound.ensures.accuracy fit)
    (ap (breaks_place NonFraction) (above-is s) ∙ sym c.if-breaks_place.ensures)
    (ap (λ t. is_empty (elements_in t.children)) (tree-is s) ∙ ap (λ ns. is_empty (elements_in ns)) (children-is (out-Spot s).element.now) ∙ sym c.if-not-has_no_elements.ensures)
