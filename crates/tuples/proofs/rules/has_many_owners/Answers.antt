use Rattle.std.proofs.Common.{◌∙◌, sym, ap}
use Rattle.ix_base.specs.Membership.{deepest}
use Rattle.id_table.specs.Model.{asked}
use Rattle.tuples.specs.OwnedFacts.{seen}
use Rattle.tuples.specs.Owners.{are_above}
use Rattle.tuples.proofs.DeepLaws.{above-is}
use Rattle.tuples.proofs.rules.has_many_owners.Goals as goal

pub returns : goal.returns
returns c = c.are_above.ensures ∙ ap (are_above (asked c.args.index.now) deepest) c.requires ∙ sym (above-is (asked c.args.index.now) deepest (seen c.args.fact.now))
