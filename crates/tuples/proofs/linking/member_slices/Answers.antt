use Rattle.std.proofs.Common.{refl}
use Rattle.ix_base.proofs.FrontLemmas.{front-none}
use Rattle.tuples.proofs.Adding.{err-any}
use Rattle.tuples.proofs.linking.member_slices.Goals as goal

pub returns-in_err-facts-clause-err : goal.returns-in_err-facts-clause-err
returns-in_err-facts-clause-err c = err-any _ (front-none _ _ _ refl)
