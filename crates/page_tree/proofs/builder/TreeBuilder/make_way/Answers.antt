use Rattle.std.proofs.Common.{◌∙◌, sym}
use Rattle.page_tree.proofs.LateLaws.{size-none}
use Rattle.page_tree.proofs.LedLaws.{led-moved}
use Rattle.page_tree.proofs.WaitingLaws.{is-none}
use Rattle.page_tree.proofs.builder.TreeBuilder.make_way.Goals as goal

pub skip_to-requires : goal.skip_to-requires
skip_to-requires c =
    let t = c.work_off.new.self in
    size-none t.pending.is_first _ (c.in_ok-work_off.ensures.waits (is-none t.broken (sym c.is_some.ensures ∙ c.if-is_some.false)))

pub returns-clause-led : goal.returns-clause-led
returns-clause-led c = λ b h.
    let t = c.work_off.new.self in
    led-moved t.setting t.building t.pending c.skip_to.new.self t.broken b c.skip_to.ensures.same.1 c.skip_to.ensures.bytes (c.in_ok-work_off.ensures.led b h)
