use Rattle.std.proofs.Common.{sym, ◌∙◌}
use Rattle.page_constructs.specs.Constructs.{counted}
use Rattle.page_tree.proofs.LedLaws.{led-broken, led-text}
use Rattle.page_tree.proofs.StandingLaws.{on-ok}
use Rattle.page_tree.proofs.WaitingLaws.{is-none}
use Rattle.page_tree.proofs.builder.TreeBuilder.take_text.Goals as goal

pub append-requires-clause-next : goal.append-requires-clause-next
append-requires-clause-next c =
    let t = c.make_way.new.self in
    c.in_ok-make_way.ensures.next (is-none t.broken (sym c.is_some.ensures ∙ c.if-is_some.false))

pub returns-then-is_some-clause-led : goal.returns-then-is_some-clause-led
returns-then-is_some-clause-led c = λ b d e h.
    let t = c.make_way.new.self in
    led-broken t.setting t.building t.pending t.broken b d (counted c.args.offset c.args.text.now) e (sym c.is_some.ensures ∙ c.if-is_some.true) (c.in_ok-make_way.ensures.led b h)

pub returns-clause-led : goal.returns-clause-led
returns-clause-led c = on-ok c.append.result (λ f b d e h.
    let t = c.make_way.new.self in
    led-text t.setting t.building t.pending t.broken b d c.append.new.self (counted c.args.offset c.args.text.now) e (is-none t.broken (sym c.is_some.ensures ∙ c.if-is_some.false)) c.append.ensures.first f
    (c.in_ok-make_way.ensures.led b h)) c.append.ensures.bytes
