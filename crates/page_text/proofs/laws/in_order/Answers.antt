use Rattle.page_text.proofs.InOrder.{front-in-order, page-in-order}
use Rattle.page_text.proofs.laws.in_order.Goals as goal

pub returns-clause-page : goal.returns-clause-page
returns-clause-page c = page-in-order

pub returns-clause-front : goal.returns-clause-front
returns-clause-front c = front-in-order
