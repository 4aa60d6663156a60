use Rattle.ix_base.proofs.RuleLemmas.{rule_cmp-rank_of}
use Rattle.base_laws.proofs.reports.ordered_rules.Goals as goal

pub returns : goal.returns
returns c = rule_cmp-rank_of
