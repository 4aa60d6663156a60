use Rattle.std.proofs.Common.{refl}
use Rattle.ix_base.proofs.FrontLemmas.{front-none}
use Rattle.continuations.proofs.Adding.{err-any}
use Rattle.continuations.proofs.linking.link.Goals as goal

pub returns-in_err-links-clause-err : goal.returns-in_err-links-clause-err
returns-in_err-links-clause-err c = err-any _ (front-none _ _ _ refl)

pub chains_if_sound-requires : goal.chains_if_sound-requires
chains_if_sound-requires c = c.in_ok-links.ensures
