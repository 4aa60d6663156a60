use Rattle.page_rows.proofs.PageRows.{own-pages}
use Rattle.page_rows.proofs.markups.first_text.Goals as goal

pub add_page-requires-clause-page : goal.add_page-requires-clause-page
add_page-requires-clause-page c = own-pages _ _ _ c.requires
