use Rattle.std.proofs.lemmas.List.Concat.{flat_map-append}
use Rattle.link_ids.specs.Links.{links_of}
use Rattle.targets.proofs.LinkStandLaws.{go-on}
use Rattle.targets.proofs.laws.links_go_on.Goals as goal

pub returns-clause-stay : goal.returns-clause-stay
returns-clause-stay c es more = flat_map-append links_of es more

pub returns-clause-go_on : goal.returns-clause-go_on
returns-clause-go_on c names es more l = go-on names es more l
