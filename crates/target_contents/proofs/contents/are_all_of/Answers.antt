use Rattle.std.proofs.Common.{◌∙◌, sym}
use Rattle.target_contents.proofs.NoTargets.{items-of-default}
use Rattle.target_contents.proofs.contents.are_all_of.Goals as goal

pub returns-then-not-has_targets-clause-items : goal.returns-then-not-has_targets-clause-items
returns-then-not-has_targets-clause-items c = λ empty.
    items-of-default c.args.target.now c.args.index.now.spots (sym c.has_targets.ensures ∙ c.if-not-has_targets.true) (sym c.is_empty.ensures ∙ empty)
