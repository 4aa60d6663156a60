-- What a look at elements adds.
use Rattle.std.specs.Prelude.{◌≡◌, ℕ, List, ◌++◌, flat_map}
use Rattle.ix_base.specs.declared.breach.Found.{Found}
use Rattle.ix_base.specs.declared.kind.Kind.{Kind}
use Rattle.ix_base.specs.declared.place.Place.{Place}
use Rattle.ix_base.specs.declared.rule.Rule.{Rule}
use Rattle.ix_base.specs.Elements.{Placed, below, elements_from}
use Rattle.ix_base.specs.ElementRules.{breaks_as, found}
use Rattle.ix_base.specs.Rows.{row}
use Rattle.ix_base.specs.Trees.{Nodes, Tree}

-- where an element stands on a page
abbrev pub place_on : ℕ → Tree → Place
place_on page t = record { page = page; offset = t.head.offset }

-- the entry of a rule, where an element of this kind breaks it
abbrev pub entry_as : Kind → Place → Placed → Rule → List Found
entry_as k place e r = row (breaks_as k e r) (record { place = place; rule = r })

-- those of some rules that an element of this kind breaks
abbrev pub found_as : List Rule → Kind → Place → Placed → List Found
found_as rules k place e = flat_map (entry_as k place e) rules

-- the rules that an element of a page breaks
abbrev pub found_at : ℕ → Placed → List Found
found_at page e = found (place_on page e.tree) e

-- those that some nodes, and the elements below them, break, below these elements
abbrev pub found_below : ℕ → List Tree → Nodes → List Found
found_below page above nodes = flat_map (found_at page) (below above nodes)

-- those that a tree breaks, below these elements
abbrev pub found_from : ℕ → List Tree → Tree → List Found
found_from page above t = flat_map (found_at page) (elements_from above t)

-- of what is to be added, this is left
abbrev pub Stands : List Found → List Found → List Found → List Found → Type 0
Stands added old now left = (done : List Found) × (now ≡ old ++ done) × (done ++ left ≡ added)
