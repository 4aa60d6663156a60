use Rattle.std.proofs.Common.{◌≡◌, ◌&&◌, ◌==◌, false, None, drop, sym, ap, ◌∙◌, subst, string_bytes}
use Rattle.page_constructs.specs.Constructs.{whole_size}
use Rattle.page_tree.specs.TextPlaces.{IsPlaced}
use Rattle.page_tree.proofs.LedLaws.{led-settled, led-stopped}
use Rattle.page_tree.proofs.FeedLaws.{on-both}
use Rattle.page_tree.proofs.builder.TreeBuilder.work_off.Goals as goal

pub returns-in-Some-clause-led : goal.returns-in-Some-clause-led
returns-in-Some-clause-led c = λ b h.
    let t = c.args.self.now in
    let p = t.pending in
    let e = c.in_ok-settled.ensures in
    led-stopped t.setting t.building c.settle.new.building p c.clear.new.self t.broken b c.requires e.on_page h c.in-Some.broken
    (λ us w. e.breaks c.in-Some.broken c.in-Some.is us (subst (λ x. IsPlaced x p.places us) (sym c.as_str.ensures.value) w))

pub returns-clause-led : goal.returns-clause-led
returns-clause-led c =
    let t = c.args.self.now in
    let p = t.pending in
    let e = c.in_ok-settled.ensures in
    let k = c.in_ok-settled.settled.taken in
    on-both c.drop_front.result (λ waits first b h.
    led-settled t.setting t.building c.settle.new.building p c.drop_front.new.self t.broken b c.requires e.on_page h k (p.is_first && (k == 0))
    (λ us w. e.leads c.in_default.is us (subst (λ x. IsPlaced x p.places us) (sym c.as_str.ensures.value) w)) waits first) c.drop_front.ensures.bytes c.drop_front.ensures.first

pub returns-clause-waits : goal.returns-clause-waits
returns-clause-waits c =
    let p = c.args.self.now.pending in
    let k = c.in_ok-settled.settled.taken in
    let q = c.drop_front.new.self in
    let f = p.is_first && (k == 0) in
    on-both c.drop_front.result (λ text first n.
    let rest : string_bytes q.text ≡ drop k c.as_str.result.now = text ∙ ap (drop k) (sym c.as_str.ensures.value) in
    let none : whole_size false f (drop k c.as_str.result.now) ≡ None = (c.in_ok-settled.ensures.waits c.in_default.is).0 in
    ap (whole_size false q.is_first) rest ∙ ap (λ x. whole_size false x (drop k c.as_str.result.now)) first ∙ none) c.drop_front.ensures.text c.drop_front.ensures.first
