use Rattle.ix_base.specs.Membership.{deepest}
use Rattle.target_contents.specs.Contents.{SaysItem}
use Rattle.target_contents.proofs.FactsLaws.{facts-given}
use Rattle.targets.proofs.laws.facts_by_items.Goals as goal

pub returns : goal.returns
returns c = λ bases all es items facts one h. facts-given (SaysItem bases all) items one all deepest es facts h
