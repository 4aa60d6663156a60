use Rattle.xbrl_parts.proofs.AlikeLaws.{unit_same, unit_other}
use Rattle.xbrl_parts.proofs.alike.same_unit.Goals as goal

pub returns-clause-same : goal.returns-clause-same
returns-clause-same c = λ h. unit_same c.args.a.now c.args.b.now c.is_same_unit.result c.is_same_unit.ensures h

pub returns-clause-other : goal.returns-clause-other
returns-clause-other c = λ h. unit_other c.args.a.now c.args.b.now c.is_same_unit.result c.is_same_unit.ensures h
