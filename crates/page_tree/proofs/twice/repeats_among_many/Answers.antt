use Rattle.std.proofs.Common.{◌∙◌, sym, map}
use Rattle.page_tree.proofs.TwiceLaws.{name-none, name-found, name-seen, not-true, not-false}
use Rattle.page_tree.proofs.twice.repeats_among_many.Goals as goal

pub loop-attr-init : goal.loop-attr-init
loop-attr-init c = name-none c.new-seen.result.keys (map (λ a. a.name.name.now) c.args.attrs.now) c.new-seen.ensures.empty

pub returns-then-not-is_new : goal.returns-then-not-is_new
returns-then-not-is_new c =
    name-found c.args.attrs.now c.loop-attr.attr-index c.attr-item.result c.loop-attr.seen.keys _ c.attr-item.is c.loop-attr-test.true (not-false _ (sym c.if-not-is_new.true ∙ c.in_ok-is_new.ensures.added)) c.loop-attr.invariant

pub loop-attr-preserved : goal.loop-attr-preserved
loop-attr-preserved c =
    name-seen c.args.attrs.now c.loop-attr.attr-index c.attr-item.result c.loop-attr.seen.keys _ c.attr-item.is c.loop-attr-test.true c.insert.new.self.keys (not-true _ (sym c.if-not-is_new.false ∙ c.in_ok-is_new.ensures.added))
    c.in_ok-is_new.ensures.keys c.loop-attr.invariant
