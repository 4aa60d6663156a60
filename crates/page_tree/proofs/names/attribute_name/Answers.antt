use Rattle.ix_base.specs.Spaces.{spaces_bound}
use Rattle.page_tree.proofs.names.attribute_name.Goals as goal

pub returns-in_default-clause-space : goal.returns-in_default-clause-space
returns-in_default-clause-space c = c.in_ok-kept.ensures.space (spaces_bound c.args.scope)
