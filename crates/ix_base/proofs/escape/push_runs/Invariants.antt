use Rattle.ix_base.specs.Manners.{ref_in}
use Rattle.ix_base.proofs.RunLemmas.{HasRun}
use Rattle.ix_base.proofs.escape.push_runs.Given as goal

abbrev pub invariant-loop-at : goal.invariant-loop-at
invariant-loop-at l = HasRun (ref_in l.manner) l.fn.out l.out l.text l.from l.at
