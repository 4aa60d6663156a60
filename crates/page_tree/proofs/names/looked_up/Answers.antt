use Rattle.ix_base.specs.Spaces.{spaces_bound}
use Rattle.page_tree.proofs.names.looked_up.Goals as goal

pub returns-in-None-clause-space : goal.returns-in-None-clause-space
returns-in-None-clause-space c = c.unbound.ensures.space (spaces_bound c.args.scope)
