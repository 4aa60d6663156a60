use Rattle.std.proofs.Common.{◌∙◌, ◌++◌, ◌∷◌, [], ap, bytes_eq, cond, sym}
use Rattle.std.proofs.lemmas.Result.{on_err_weaker, on_ok_weaker}
use Rattle.std.specs.Option.{unwrap_or}
use Rattle.text_map.specs.Places.{items_found}
use Rattle.text_map.specs.Tables.{added}
use Rattle.text_map.specs.Texts.{items_in}
use Rattle.text_map.proofs.Finding.{items-added, items-found_in}
use Rattle.text_map.proofs.map.TextMap+Vec+T.push_at.Goals as goal

pub returns-clause-ok : goal.returns-clause-ok
returns-clause-ok g c =
    let t = c.self.inside.tables in
    on_ok_weaker c.push.result
    (λ e q. items-found_in c.push.new.self q ∙ ap (λ o. unwrap_or o []) (e q ∙ ap (λ b. cond (bytes_eq q b.now) (added c.args.item (items_found t q)) (items_found t q)) c.of-key.ensures)
    ∙ items-added c.args.item (bytes_eq q c.args.text.now) (items_found t q)
    ∙ ap (λ xs. cond (bytes_eq q c.args.text.now) (xs ++ c.args.item ∷ []) xs) (sym (items-found_in t q) ∙ ap (λ m. items_in m q) c.self.view_is))
    c.push.ensures.ok

pub returns-clause-err : goal.returns-clause-err
returns-clause-err g c =
    let t = c.self.inside.tables in
    on_err_weaker c.push.result
    (λ e q. items-found_in c.push.new.self q ∙ ap (λ o. unwrap_or o []) (e q) ∙ sym (items-found_in t q) ∙ ap (λ m. items_in m q) c.self.view_is)
    c.push.ensures.err
