use Rattle.targets.proofs.LinkStandLaws.{link-doubled, link-pending, link-resolved}
use Rattle.targets.proofs.laws.links_stand.Goals as goal

pub returns-clause-resolved : goal.returns-clause-resolved
returns-clause-resolved c names es l e = link-resolved names es l e

pub returns-clause-pending : goal.returns-clause-pending
returns-clause-pending c names es l = link-pending names es l

pub returns-clause-doubled : goal.returns-clause-doubled
returns-clause-doubled c names es l = link-doubled names es l
