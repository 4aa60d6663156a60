use Rattle.std.proofs.Common.{◌∙◌, ap, bytes_eq, cond, None, sym}
use Rattle.text_map.specs.Places.{found}
use Rattle.text_map.specs.Texts.{get_in}
use Rattle.text_map.proofs.Finding.{get-found}
use Rattle.text_map.proofs.map.TextMap.remove.Goals as goal

pub returns-clause-texts : goal.returns-clause-texts
returns-clause-texts g c = λ q.
    get-found c.take.new.self q ∙ c.take.ensures.texts q ∙ ap (λ b. cond (bytes_eq q b.now) None (found c.self.inside.tables q)) c.of-key.ensures
    ∙ ap (λ o. cond (bytes_eq q c.args.text.now) None o) (sym (get-found c.self.inside.tables q) ∙ ap (λ m. get_in m q) c.self.view_is)

pub returns-clause-value : goal.returns-clause-value
returns-clause-value g c =
    c.take.ensures.value ∙ ap (λ b. found c.self.inside.tables b.now) c.of-key.ensures ∙ sym (get-found c.self.inside.tables c.args.text.now) ∙ ap (λ m. get_in m c.args.text.now) c.self.view_is
