use Rattle.instance_out.proofs.BackLaws.{read-back, unbroken-text, shallow-text, one-text}
use Rattle.instance_laws.proofs.denotation.read_back.Goals as goal

pub returns-clause-read : goal.returns-clause-read
returns-clause-read c = read-back

pub returns-clause-unbroken : goal.returns-clause-unbroken
returns-clause-unbroken c = unbroken-text

pub returns-clause-one : goal.returns-clause-one
returns-clause-one c = one-text

pub returns-clause-shallow : goal.returns-clause-shallow
returns-clause-shallow c = shallow-text
