use Rattle.std.proofs.Common.{◌++◌, List, take}
use Rattle.ix_base.specs.LocatedElements.{Located}
use Rattle.id_table.specs.Tables.{all_located}
use Rattle.page_links.specs.Model.{names_of}
use Rattle.page_links.specs.LinkTables.{AreLinks}
use Rattle.page_links.proofs.standing.Links.add_all.Given as goal

-- the elements so far have come
abbrev pub invariant-loop-spot : goal.invariant-loop-spot
invariant-loop-spot l = (es : List Located) → AreLinks (names_of l.names) es l.initial.self
    → AreLinks (names_of l.names) (es ++ all_located (take l.spot-index l.spots)) l.self
