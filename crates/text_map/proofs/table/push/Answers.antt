use Rattle.std.proofs.Common.{◌∙◌, ap, bytes_eq, Some}
use Rattle.text_map.specs.Tables.{added, items_at}
use Rattle.text_map.proofs.Keyed.{cond-same, items-written, on_refusal}
use Rattle.text_map.proofs.table.push.Goals as goal

pub returns-in_err-push-clause-err : goal.returns-in_err-push-clause-err
returns-in_err-push-clause-err g c = on_refusal c.from_residual.result (λ q.
    items-written c.args.table.now (c.get_mut.follows.lender c.push.new.self) c.args.key.text.now c.in-Some.items.now c.push.new.self (c.get_mut.follows.holds c.push.new.self)
    c.in-Some.ensures.value (λ o. o) (ap Some c.in_err-push.ensures.items) q
    ∙ cond-same (bytes_eq q c.args.key.text.now) (items_at c.args.table.now q))

pub returns-in-Some-clause-ok : goal.returns-in-Some-clause-ok
returns-in-Some-clause-ok g c =
    items-written c.args.table.now (c.get_mut.follows.lender c.push.new.self) c.args.key.text.now c.in-Some.items.now c.push.new.self (c.get_mut.follows.holds c.push.new.self)
    c.in-Some.ensures.value (added c.args.item) (ap Some c.in_ok-push.ensures.items)
