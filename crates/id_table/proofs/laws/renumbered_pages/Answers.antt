use Rattle.id_table.proofs.Renumbered.{breaks-moved, chain-moved, owner-moved, members-moved}
use Rattle.id_table.proofs.laws.renumbered_pages.Goals as goal

pub returns-clause-rules : goal.returns-clause-rules
returns-clause-rules c = breaks-moved

pub returns-clause-chain : goal.returns-clause-chain
returns-clause-chain c = chain-moved

pub returns-clause-owner : goal.returns-clause-owner
returns-clause-owner c = owner-moved

pub returns-clause-members : goal.returns-clause-members
returns-clause-members c = members-moved
