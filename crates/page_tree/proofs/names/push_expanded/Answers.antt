use Rattle.ix_base.specs.Spaces.{spaces_bound}
use Rattle.page_tree.proofs.ExpandLaws.{from-more}
use Rattle.page_tree.proofs.names.push_expanded.Goals as goal

pub returns-clause-spaces : goal.returns-clause-spaces
returns-clause-spaces c = from-more (spaces_bound c.args.scope) _ _ _ c.in_ok-push.ensures.items c.in_ok-name.ensures.space
