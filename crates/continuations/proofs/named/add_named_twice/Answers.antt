use Rattle.ix_base.specs.declared.rule.Rule.TheVariants.{L5}
use Rattle.continuations.proofs.LinkLaws.{nothing-added}
use Rattle.continuations.proofs.NameLaws.{none-named_twice}
use Rattle.continuations.proofs.named.add_named_twice.Goals as goal

pub returns-then-not-links-2-clause-ok : goal.returns-then-not-links-2-clause-ok
returns-then-not-links-2-clause-ok c =
    nothing-added c.args.breaches.now L5 c.args.index.now.spots (none-named_twice c.args.index.now.spots c.args.links.now c.requires c.if-not-links.true c.if-not-links-2.true)
