use Rattle.std.proofs.Common.{◌∙◌, sym}
use Rattle.ix_base.specs.LinkRules.{is_footnote}
use Rattle.footnotes.proofs.LoopLaws.{passes-at}
use Rattle.footnotes.proofs.rules.has_footnote.Goals as goal

pub returns-then-is_footnote : goal.returns-then-is_footnote
returns-then-is_footnote c =
    sym (passes-at is_footnote c.args.spots.now c.loop-spot.spot-index c.spot-item.result c.loop-spot-test.true c.spot-item.is
    (sym c.is_footnote.ensures ∙ c.if-is_footnote.true))
