use Rattle.targets.proofs.ProperLaws.{comes-proper}
use Rattle.targets.proofs.Rearranged.{rearranged}
use Rattle.targets.proofs.laws.sound_pages.Goals as goal

pub returns-clause-rearranged : goal.returns-clause-rearranged
returns-clause-rearranged c s sound o h others m = rearranged s.base s.pages others m sound o h

pub returns-clause-proper : goal.returns-clause-proper
returns-clause-proper c = comes-proper
