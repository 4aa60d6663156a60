use Rattle.page_rows.proofs.PageRows.{own-pages}
use Rattle.page_rows.proofs.sets.add_pages.Goals as goal

pub add_page-requires-clause-page : goal.add_page-requires-clause-page
add_page-requires-clause-page c = own-pages _ _ _ c.in_ok-root.ensures
