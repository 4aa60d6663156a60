use Rattle.page_verdicts.proofs.JudgeLaws.{judged}
use Rattle.page_verdicts.proofs.judge.judge.Goals as goal

pub returns-in-None-clause-says : goal.returns-in-None-clause-says
returns-in-None-clause-says c =
    judged c.args.base.now c.args.names.now c.args.forest c.judge_kept.result c.in-None.ensures c.judge_kept.ensures.broken c.judge_kept.ensures.made
