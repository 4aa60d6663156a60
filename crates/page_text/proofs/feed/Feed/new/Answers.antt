use Rattle.page_text.proofs.Readings.{stands-begin}
use Rattle.page_text.proofs.feed.Feed.new.Goals as goal

pub returns-clause-stands : goal.returns-clause-stands
returns-clause-stands c = stands-begin
