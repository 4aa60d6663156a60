use Rattle.continuations.proofs.KeptLaws.{found-is, some-none}
use Rattle.continuations.proofs.chains.Chains.of.Goals as goal

pub unreachable-requires : goal.unreachable-requires
unreachable-requires c = some-none _ c.requires (found-is c.self.inside.chains c.args.self.now _ _ _ _ c.self.view_is c.find.ensures c.in-None.is)

pub returns-clause-chain : goal.returns-clause-chain
returns-clause-chain c = found-is c.self.inside.chains c.args.self.now _ _ _ _ c.self.view_is c.find.ensures c.in-Some.is

pub returns-clause-pages : goal.returns-clause-pages
returns-clause-pages c = c.in-Some.slice.on_pages
