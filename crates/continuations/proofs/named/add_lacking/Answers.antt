use Rattle.std.proofs.Common.{◌∙◌, sym}
use Rattle.ix_base.specs.declared.rule.Rule.TheVariants.{L4}
use Rattle.continuations.proofs.LinkLaws.{nothing-added}
use Rattle.continuations.proofs.named.add_lacking.Goals as goal

pub returns-then-not-links-clause-ok : goal.returns-then-not-links-clause-ok
returns-then-not-links-clause-ok c = nothing-added c.args.breaches.now L4 c.args.index.now.spots (sym c.requires.lacks ∙ c.if-not-links.true)
