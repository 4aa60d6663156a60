use Rattle.std.proofs.Common.{◌≡◌, false, length, rules, sym, ap, ◌∙◌, string_bytes}
use Rattle.std.specs.Str.{chars}
use Rattle.std.proofs.lemmas.Str.{chars_from_encodes}
use Rattle.page_text.proofs.Readings.{stops}
use Rattle.page_tree.specs.Buildings.{state_of}
use Rattle.page_constructs.specs.Constructs.{whole_size}
use Rattle.page_tree.specs.PendingText.{fault_at}
use Rattle.page_tree.proofs.WaitingLaws.{is-some, is-none, pending-broken, pending-stopped, pending-left}
use Rattle.page_tree.proofs.builder.TreeBuilder.pending.Goals.{then-is_some-via-then-is_some, then-is_some-via-else-is_some+then-is_broken}
use Rattle.page_tree.proofs.builder.TreeBuilder.pending.Goals as goal

pub returns-then-is_some : goal.returns-then-is_some
returns-then-is_some c = λ b h.
    let t = c.args.self.now in
    elim c.then-is_some.branch [
      | then-is_some-via-then-is_some w ↦
          let x = is-some t.broken (sym c.is_some.ensures ∙ w.if-is_some.true) in
          sym (pending-broken b t.setting.depth (fault_at x.0) (h.built.read.led.breaks x.0 x.1))
      | then-is_some-via-else-is_some+then-is_broken w ↦
          let n = is-none t.broken (sym c.is_some.ensures ∙ w.if-is_some.false) in
          let x = is-some t.feed.fault (sym w.is_broken.ensures ∙ w.if-is_broken.true) in
          sym (pending-stopped b t.setting.depth x.0 (sym (stops t.feed b (h.built.read.reads n)) ∙ x.1))
    ]

pub returns : goal.returns
returns c = λ b h.
    let t = c.args.self.now in
    let n = is-none t.broken (sym c.is_some.ensures ∙ c.if-is_some.false) in
    let o = is-none t.feed.fault (sym c.is_broken.ensures ∙ c.if-is_broken.false) in
    let x = h.built.read.led.leads n in
    let count : c.count.result ≡ length (chars (string_bytes t.pending.text)) = search (rules, chars_from_encodes) in
    count ∙ ap (λ y. length (chars y)) (sym x.waits.says)
    ∙ sym (pending-left b t.setting.depth (state_of t.building) t.pending.is_first x.left x.leads (sym (stops t.feed b (h.built.read.reads n)) ∙ o)
    (ap (whole_size false t.pending.is_first) x.waits.says ∙ h.built.waits n))
