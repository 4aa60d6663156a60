use Rattle.id_table.proofs.OnPages.{on_page-at}
use Rattle.page_rows.proofs.markups.first_in.Goals as goal

pub returns-then-eq : goal.returns-then-eq
returns-then-eq c = on_page-at c.spots-spot-items.result.now c.loop-spot.spot-index c.spot-item.result c.loop-spot-test.true c.spot-item.is c.spots-spot-items.ensures.pages
