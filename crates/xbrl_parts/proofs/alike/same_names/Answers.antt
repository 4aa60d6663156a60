use Rattle.std.proofs.Common.{sym}
use Rattle.ix_base.specs.OwnNames.{same_own}
use Rattle.xbrl_parts.proofs.AlikeLaws.{each_longer}
use Rattle.xbrl_parts.proofs.alike.same_names.Goals as goal

pub returns-then-a-b : goal.returns-then-a-b
returns-then-a-b c = sym (each_longer same_own c.args.a.now c.args.b.now c.if-a-b.true)
