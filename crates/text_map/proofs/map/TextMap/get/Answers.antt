use Rattle.std.proofs.Common.{◌∙◌, ap, sym}
use Rattle.text_map.specs.Places.{found}
use Rattle.text_map.specs.Texts.{get_in}
use Rattle.text_map.proofs.Finding.{get-found}
use Rattle.text_map.proofs.map.TextMap.get.Goals as goal

pub returns : goal.returns
returns g c =
    c.get.ensures ∙ ap (λ b. found c.self.inside.tables b.now) c.of-key.ensures
    ∙ sym (get-found c.self.inside.tables c.args.text.now) ∙ ap (λ m. get_in m c.args.text.now) c.self.view_is
