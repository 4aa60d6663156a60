use Rattle.std.proofs.Common.{◌++◌, ℕ, List, take}
use Rattle.std.specs.List.{flat_map}
use Rattle.ix_base.specs.LocatedElements.{Located, located}
use Rattle.link_ids.specs.LinkAttributes.{links_in}
use Rattle.page_links.specs.LinkTables.{AreLinked}
use Rattle.link_ids.specs.Links.{Link}
use Rattle.page_links.proofs.standing.Links.link_all.Given as goal

-- the links of the attributes so far have come
abbrev pub invariant-loop-attribute : goal.invariant-loop-attribute
invariant-loop-attribute l = (names : ℕ → List ℕ) (es ts : List Located) (ls : List Link) → AreLinked names es ts ls l.initial.self
    → AreLinked names es ts (ls ++ flat_map (λ a. links_in a (located l.spot)) (take l.attribute-index l.attribute-items)) l.self
