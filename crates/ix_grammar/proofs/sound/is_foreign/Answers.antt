use Rattle.std.proofs.Common.{◌≡◌, ◌∙◌, Bool, true, false, not, refl, sym}
use Rattle.ix_base.specs.Elements.{placed}
use Rattle.ix_grammar.proofs.FoundLaws.{none_found}
use Rattle.ix_grammar.proofs.sound.is_foreign.Goals as goal

un-not : (b : Bool) → not b ≡ true → b ≡ false
un-not true e = sym e
un-not false e = refl

pub returns : goal.returns
returns c = λ t place.
    none_found (placed c.args.spot.now) place (sym c.requires) (sym c.is_inline_named.ensures ∙ un-not c.is_inline_named.result t)
