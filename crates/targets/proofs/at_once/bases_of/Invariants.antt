use Rattle.std.proofs.Common.{◌≡◌, false, map, take}
use Rattle.page_links.specs.Model.{as_paged}
use Rattle.target_contents.specs.PageSet.{page_bases}
use Rattle.targets.proofs.at_once.bases_of.Given as goal

-- those of the pages before here
abbrev pub invariant-loop-page : goal.invariant-loop-page
invariant-loop-page l = l.bases ≡ record { pages = page_bases (record { base = l.base; pages = map as_paged (take l.page-index l.pages) }); is_spent = false }
