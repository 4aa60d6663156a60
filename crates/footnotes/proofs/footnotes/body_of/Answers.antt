use Rattle.std.proofs.Common.{length}
use Rattle.ix_base.specs.LocatedElements.{located}
use Rattle.footnotes.proofs.PageLaws.{on_pages}
use Rattle.footnotes.proofs.footnotes.body_of.Goals as goal

pub markup-requires-clause-bases : goal.markup-requires-clause-bases
markup-requires-clause-bases c = on_pages c.args.chains.now (length c.args.bases.now.pages) (located c.args.spot.now) c.chain_of.result.now c.requires c.chain_of.ensures.chain
