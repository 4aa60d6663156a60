use Rattle.std.proofs.Common.{◌∙◌, ap, bytes_eq, cond, Some, sym}
use Rattle.std.proofs.lemmas.Result.{IfOk-weaker, on_err_weaker, on_ok_weaker}
use Rattle.text_map.specs.Places.{found}
use Rattle.text_map.specs.Texts.{get_in}
use Rattle.text_map.proofs.Finding.{get-found}
use Rattle.text_map.proofs.map.TextMap.replace.Goals as goal

pub returns-clause-ok : goal.returns-clause-ok
returns-clause-ok g c =
    on_ok_weaker c.put.result
    (λ e q. get-found c.put.new.self q ∙ e q ∙ ap (λ b. cond (bytes_eq q b.now) (Some c.args.value) (found c.self.inside.tables q)) c.of-key.ensures
    ∙ ap (λ o. cond (bytes_eq q c.args.text.now) (Some c.args.value) o) (sym (get-found c.self.inside.tables q) ∙ ap (λ m. get_in m q) c.self.view_is))
    c.put.ensures.ok

pub returns-clause-err : goal.returns-clause-err
returns-clause-err g c =
    on_err_weaker c.put.result
    (λ e q. get-found c.put.new.self q ∙ e q ∙ sym (get-found c.self.inside.tables q) ∙ ap (λ m. get_in m q) c.self.view_is) c.put.ensures.err

pub returns-clause-older : goal.returns-clause-older
returns-clause-older g c =
    IfOk-weaker c.put.result _ _
    (λ o e. e ∙ ap (λ b. found c.self.inside.tables b.now) c.of-key.ensures ∙ sym (get-found c.self.inside.tables c.args.text.now) ∙ ap (λ m. get_in m c.args.text.now) c.self.view_is) c.put.ensures.older
