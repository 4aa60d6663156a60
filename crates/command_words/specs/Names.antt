-- Which words name pages.
use Rattle.std.specs.Prelude.{ℕ, ◌&&◌, Bool, not, nat_lt, nat_le, List, length}
use Rattle.std.specs.List.{list_all}
use Rattle.ix_base.specs.declared.limits.TheConstants.{MOST_PAGES}
use Rattle.page_names.specs.Names.{has_repeat, is_page_name}

-- names of pages: one at least, not more than a set may have, and all different
abbrev pub are_pages : List (List ℕ) → Bool
are_pages names = nat_lt 0 (length names) && nat_le (length names) MOST_PAGES && list_all is_page_name names && not (has_repeat names)
