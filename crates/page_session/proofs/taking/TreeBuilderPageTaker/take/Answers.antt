use Rattle.page_session.proofs.ReadLaws.{builds_on}
use Rattle.page_session.proofs.taking.TreeBuilderPageTaker.take.Goals as goal

pub returns : goal.returns
returns c = builds_on c.feed.result c.args.piece.now c.args.self.now c.feed.new.self c.feed.ensures.stands c.feed.ensures.limit c.feed.ensures.page
