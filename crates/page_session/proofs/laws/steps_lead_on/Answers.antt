use Rattle.std.proofs.Common.{[]}
use Rattle.page_session.proofs.StepLaws.{answered, lead_on, same_base}
use Rattle.page_session.proofs.laws.steps_lead_on.Goals as goal

pub returns-clause-stands : goal.returns-clause-stands
returns-clause-stands c old new steps = lead_on [] old new steps

pub returns-clause-base : goal.returns-clause-base
returns-clause-base c = same_base

pub returns-clause-answer : goal.returns-clause-answer
returns-clause-answer c = answered
