use Rattle.std.proofs.Common.{◌∙◌, ap, is_some}
use Rattle.std.proofs.lemmas.Result.{IfOk-weaker, on_err_weaker, on_ok_weaker}
use Rattle.text_map.specs.declared.tables.TheConstants.{FEW}
use Rattle.text_map.specs.Places.{any_of, rest_at}
use Rattle.text_map.specs.Tables.{at, kept_at, size}
use Rattle.text_map.proofs.Classes.{stays-small}
use Rattle.text_map.proofs.Placing.{at-front, at-middle, at-rest, before-class, before-first, before-rest, class-room, first-room, found-front, found-middle, found-rest}
use Rattle.text_map.proofs.tables.Tables.put.Goals as goal

pub returns-in-First-clause-ok : goal.returns-in-First-clause-ok
returns-in-First-clause-ok g c =
    let t = c.args.self.now in
    on_ok_weaker c.put.result
    (let b = before-first t c.args.key.text.now c.in-First.ensures in
    at-middle (kept_at t.classes.items) (at t.first) (rest_at t.rest) c.args.key.text.now (λ _. c.args.value) b.0 b.1 (at c.put.new.table)) c.put.ensures.ok

pub returns-in-First-clause-err : goal.returns-in-First-clause-err
returns-in-First-clause-err g c =
    let t = c.args.self.now in
    on_err_weaker c.put.result (λ e q. ap (λ o. any_of (kept_at t.classes.items q) o (rest_at t.rest q)) (e q)) c.put.ensures.err

pub returns-in-First-clause-bounded : goal.returns-in-First-clause-bounded
returns-in-First-clause-bounded g c = λ b.
    let t = c.args.self.now in record {
      first = stays-small (size c.put.new.table) (size t.first) FEW (is_some (at t.first c.args.key.text.now)) c.put.ensures.size
          (first-room t c.args.key.text.now c.in-First.ensures) b.first;
      classes = b.classes;
    }

pub returns-in-Class-clause-ok : goal.returns-in-Class-clause-ok
returns-in-Class-clause-ok g c =
    let t = c.args.self.now in
    on_ok_weaker c.put_classed.result
    (at-front (kept_at t.classes.items) (at t.first) (rest_at t.rest) c.args.key.text.now (λ _. c.args.value)
    (before-class t c.args.key.text.now c.in-Class.ensures) (kept_at c.put_classed.new.tables.items))
    c.put_classed.ensures.ok

pub returns-in-Class-clause-err : goal.returns-in-Class-clause-err
returns-in-Class-clause-err g c =
    let t = c.args.self.now in
    on_err_weaker c.put_classed.result (λ e q. ap (λ o. any_of o (at t.first q) (rest_at t.rest q)) (e q)) c.put_classed.ensures.err

pub returns-in-Class-clause-bounded : goal.returns-in-Class-clause-bounded
returns-in-Class-clause-bounded g c = λ b. record {
  first = b.first;
  classes = c.put_classed.ensures.small (class-room c.args.self.now c.args.key.text.now c.in-Class.ensures) b.classes;
}

pub returns-in-Rest-clause-ok : goal.returns-in-Rest-clause-ok
returns-in-Rest-clause-ok g c =
    let t = c.args.self.now in
    let b = before-rest t c.args.key.text.now c.in-Rest.ensures in
    on_ok_weaker c.put_in_order.result
    (at-rest (kept_at t.classes.items) (at t.first) (rest_at t.rest) c.args.key.text.now (λ _. c.args.value) b.0 b.1 (rest_at c.put_in_order.new.rest))
    c.put_in_order.ensures.ok

pub returns-in-Rest-clause-err : goal.returns-in-Rest-clause-err
returns-in-Rest-clause-err g c =
    let t = c.args.self.now in
    on_err_weaker c.put_in_order.result (λ e q. ap (λ o. any_of (kept_at t.classes.items q) (at t.first q) o) (e q)) c.put_in_order.ensures.err

pub returns-in-Rest-clause-bounded : goal.returns-in-Rest-clause-bounded
returns-in-Rest-clause-bounded g c = λ b. record { first = b.first; classes = b.classes }

pub returns-in-First-clause-older : goal.returns-in-First-clause-older
returns-in-First-clause-older g c =
    let t = c.args.self.now in
    let id = c.args.key.text.now in
    let b = before-first t id c.in-First.ensures in
    IfOk-weaker c.put.result _ _
    (λ o e. e ∙ found-middle (kept_at t.classes.items id) (at t.first id) (rest_at t.rest id) b.0 b.1) c.put.ensures.older

pub returns-in-Class-clause-older : goal.returns-in-Class-clause-older
returns-in-Class-clause-older g c =
    let t = c.args.self.now in
    let id = c.args.key.text.now in
    IfOk-weaker c.put_classed.result _ _
    (λ o e. e ∙ found-front (kept_at t.classes.items id) (at t.first id) (rest_at t.rest id) (before-class t id c.in-Class.ensures)) c.put_classed.ensures.older

pub returns-in-Rest-clause-older : goal.returns-in-Rest-clause-older
returns-in-Rest-clause-older g c =
    let t = c.args.self.now in
    let id = c.args.key.text.now in
    let b = before-rest t id c.in-Rest.ensures in
    IfOk-weaker c.put_in_order.result _ _
    (λ o e. e ∙ found-rest (kept_at t.classes.items id) (at t.first id) (rest_at t.rest id) b.0 b.1) c.put_in_order.ensures.older
