use Rattle.std.proofs.Common.{◌++◌, ℕ, List, map, take}
use Rattle.ix_base.specs.LocatedElements.{Located}
use Rattle.page_links.specs.LinkTables.{AreLinked}
use Rattle.link_ids.specs.Links.{Link}
use Rattle.page_links.proofs.standing.Links.link_each.Given as goal

-- the links of the ids so far have come
abbrev pub invariant-loop-id : goal.invariant-loop-id
invariant-loop-id l = (names : ℕ → List ℕ) (es ts : List Located) (ls : List Link) (e : Located) → AreLinked names es ts ls l.initial.self
    → AreLinked names es ts (ls ++ map (λ s. record { attribute = l.attribute; id = s.now; element = e }) (take l.id-index l.id-items)) l.self
