use Rattle.page_constructs.proofs.CutLaws.{size-append, kind_of-append}
use Rattle.page_tree.proofs.laws.ended_stays.Goals as goal

pub returns-clause-size : goal.returns-clause-size
returns-clause-size c = λ first cs more k e. size-append first cs more k e

pub returns-clause-kind : goal.returns-clause-kind
returns-clause-kind c = λ first cs more k e. kind_of-append first cs more k e
