use Rattle.std.proofs.Common.{◌≡◌, [], false, map, take}
use Rattle.ix_base.specs.LocatedElements.{marked}
use Rattle.page_links.specs.Model.{as_paged}
use Rattle.targets.proofs.at_once.index_of.Given as goal

-- the pages before here are added
abbrev pub invariant-loop-page : goal.invariant-loop-page
invariant-loop-page l = l.index ≡ record { spots = marked (map as_paged (take l.page-index l.pages)); choices = []; is_spent = false }
