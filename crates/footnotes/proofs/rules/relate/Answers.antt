use Rattle.std.proofs.Common.{refl}
use Rattle.ix_base.proofs.FrontLemmas.{front-none}
use Rattle.footnotes.proofs.Adding.{err-any}
use Rattle.footnotes.proofs.rules.relate.Goals as goal

pub returns-in_err-relationships-clause-err : goal.returns-in_err-relationships-clause-err
returns-in_err-relationships-clause-err c = err-any _ (front-none _ _ _ refl)
