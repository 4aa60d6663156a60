use Rattle.std.proofs.Common.{◌∙◌, ◌++◌, ◌∷◌, [], ap, bytes_eq, cond, is_some, sym}
use Rattle.std.proofs.lemmas.Result.{on_err_weaker, on_ok_weaker}
use Rattle.std.specs.Option.{unwrap_or}
use Rattle.text_map.specs.declared.tables.TheConstants.{FEW}
use Rattle.text_map.specs.Places.{any_of, items_at_rest}
use Rattle.text_map.specs.Tables.{added, at, items_at, items_kept, size}
use Rattle.text_map.proofs.Classes.{stays-small}
use Rattle.text_map.proofs.Placing.{at-front, at-middle, at-rest, class-room, first-room, items-before_class, items-before_first, items-before_rest, items-found}
use Rattle.text_map.proofs.tables.Tables+Vec+T.push.Goals as goal

pub returns-in-First-clause-ok : goal.returns-in-First-clause-ok
returns-in-First-clause-ok g c =
    let t = c.args.self.now in
    let id = c.args.key.text.now in
    let b = items-before_first t id c.in-First.ensures in
    on_ok_weaker c.push.result
    (λ e q. items-found (record t { first = c.push.new.table }) q
    ∙ at-middle (items_kept t.classes.items) (items_at t.first) (items_at_rest t.rest) id (λ o. unwrap_or o [] ++ c.args.item ∷ [])
    b.0 b.1 (items_at c.push.new.table) e q
    ∙ ap (λ o. cond (bytes_eq q id) (added c.args.item o) o) (sym (items-found t q))) c.push.ensures.ok

pub returns-in-First-clause-err : goal.returns-in-First-clause-err
returns-in-First-clause-err g c =
    let t = c.args.self.now in
    on_err_weaker c.push.result
    (λ e q. items-found (record t { first = c.push.new.table }) q
    ∙ ap (λ o. any_of (items_kept t.classes.items q) o (items_at_rest t.rest q)) (e q) ∙ sym (items-found t q)) c.push.ensures.err

pub returns-in-First-clause-bounded : goal.returns-in-First-clause-bounded
returns-in-First-clause-bounded g c = λ b.
    let t = c.args.self.now in record {
      first = stays-small (size c.push.new.table) (size t.first) FEW (is_some (at t.first c.args.key.text.now)) c.push.ensures.size
          (first-room t c.args.key.text.now c.in-First.ensures) b.first;
      classes = b.classes;
    }

pub returns-in-Class-clause-ok : goal.returns-in-Class-clause-ok
returns-in-Class-clause-ok g c =
    let t = c.args.self.now in
    let id = c.args.key.text.now in
    on_ok_weaker c.push_classed.result
    (λ e q. items-found (record t { classes = c.push_classed.new.tables }) q
    ∙ at-front (items_kept t.classes.items) (items_at t.first) (items_at_rest t.rest) id (λ o. unwrap_or o [] ++ c.args.item ∷ [])
    (items-before_class t id c.in-Class.ensures) (items_kept c.push_classed.new.tables.items) e q
    ∙ ap (λ o. cond (bytes_eq q id) (added c.args.item o) o) (sym (items-found t q))) c.push_classed.ensures.ok

pub returns-in-Class-clause-err : goal.returns-in-Class-clause-err
returns-in-Class-clause-err g c =
    let t = c.args.self.now in
    on_err_weaker c.push_classed.result
    (λ e q. items-found (record t { classes = c.push_classed.new.tables }) q
    ∙ ap (λ o. any_of o (items_at t.first q) (items_at_rest t.rest q)) (e q) ∙ sym (items-found t q)) c.push_classed.ensures.err

pub returns-in-Class-clause-bounded : goal.returns-in-Class-clause-bounded
returns-in-Class-clause-bounded g c = λ b. record {
  first = b.first;
  classes = c.push_classed.ensures.small (class-room c.args.self.now c.args.key.text.now c.in-Class.ensures) b.classes;
}

pub returns-in-Rest-clause-ok : goal.returns-in-Rest-clause-ok
returns-in-Rest-clause-ok g c =
    let t = c.args.self.now in
    let id = c.args.key.text.now in
    let b = items-before_rest t id c.in-Rest.ensures in
    on_ok_weaker c.push_in_order.result
    (λ e q. items-found (record t { rest = c.push_in_order.new.rest }) q
    ∙ at-rest (items_kept t.classes.items) (items_at t.first) (items_at_rest t.rest) id (λ o. unwrap_or o [] ++ c.args.item ∷ [])
    b.0 b.1 (items_at_rest c.push_in_order.new.rest) e q
    ∙ ap (λ o. cond (bytes_eq q id) (added c.args.item o) o) (sym (items-found t q))) c.push_in_order.ensures.ok

pub returns-in-Rest-clause-err : goal.returns-in-Rest-clause-err
returns-in-Rest-clause-err g c =
    let t = c.args.self.now in
    on_err_weaker c.push_in_order.result
    (λ e q. items-found (record t { rest = c.push_in_order.new.rest }) q
    ∙ ap (λ o. any_of (items_kept t.classes.items q) (items_at t.first q) o) (e q) ∙ sym (items-found t q)) c.push_in_order.ensures.err

pub returns-in-Rest-clause-bounded : goal.returns-in-Rest-clause-bounded
returns-in-Rest-clause-bounded g c = λ b. record { first = b.first; classes = b.classes }
