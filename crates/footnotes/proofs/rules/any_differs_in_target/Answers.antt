use Rattle.std.proofs.Common.{◌∙◌, sym, not}
use Rattle.std.specs.Prelude.{◌&&◌, bytes_eq}
use Rattle.ix_base.specs.LinkRules.{target_of}
use Rattle.ix_base.specs.LocatedElements.{is_fact}
use Rattle.footnotes.proofs.LoopLaws.{passes-at}
use Rattle.footnotes.proofs.rules.any_differs_in_target.Goals as goal

pub returns-then-differs_in_target : goal.returns-then-differs_in_target
returns-then-differs_in_target c =
    sym (passes-at (λ e. is_fact e && not (bytes_eq c.args.target.now (target_of e))) c.args.spots.now c.loop-spot.spot-index c.spot-item.result c.loop-spot-test.true c.spot-item.is
    (sym c.differs_in_target.ensures ∙ c.if-differs_in_target.true))
