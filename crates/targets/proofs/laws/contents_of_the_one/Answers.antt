use Rattle.ix_base.specs.declared.kind.Kind.TheVariants as kind
use Rattle.target_contents.specs.Contents.{context_at, unit_at}
use Rattle.target_contents.proofs.SaidLaws.{context-alike, one-said, unit-alike}
use Rattle.targets.proofs.laws.contents_of_the_one.Goals as goal

pub returns-clause-context : goal.returns-clause-context
returns-clause-context c names es id = one-said kind.Context context_at context-alike names es id

pub returns-clause-unit : goal.returns-clause-unit
returns-clause-unit c names es id = one-said kind.Unit unit_at unit-alike names es id
