use Rattle.std.proofs.Common.{◌∙◌, ap, sym, refl, is_some}
use Rattle.id_table.specs.Slices.{spots_in}
use Rattle.continuations.proofs.KeptLaws.{found-is, some-map}
use Rattle.continuations.proofs.chains.Chains.has.Goals as goal

pub returns : goal.returns
returns c =
    c.is_some.ensures ∙ sym (some-map spots_in c.find.result)
    ∙ ap is_some (sym (found-is c.self.inside.chains c.args.self.now _ _ _ _ c.self.view_is c.find.ensures refl))
