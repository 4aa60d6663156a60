-- Small pages as data.
use Rattle.std.proofs.Common.{ℕ, List, [], ◌∷◌}
use Rattle.std.specs.Prelude.{codes}
use Rattle.ix_base.specs.declared.breach.Found.{Found}
use Rattle.ix_base.specs.declared.rule.Rule.{Rule}
use Rattle.ix_base.specs.LocatedElements.{Located, Paged}
use Rattle.ix_base.specs.Trees.{Named, Valued, Bound, Head, Nodes, elem}

abbrev pub name : List ℕ → List ℕ → Named
name ns local = record { ns = ns; local = local }

abbrev pub attr : List ℕ → List ℕ → Valued
attr local value = record { name = name [] local; value = value }

abbrev pub attr_in : List ℕ → List ℕ → List ℕ → Valued
attr_in ns local value = record { name = name ns local; value = value }

-- the prefix e
abbrev pub scope : List Bound
scope = record { prefix = codes "e"; ns = codes "http://example.com/e" } ∷ []

abbrev pub head : List ℕ → ℕ → List ℕ → List Valued → Head
head ns at local attrs = record { offset = at; name = name ns local; attrs = attrs; scope = scope }

abbrev pub tag : List ℕ → ℕ → List ℕ → List Valued → Nodes → Nodes → Nodes
tag ns at local attrs kids rest = elem (head ns at local attrs) kids rest

abbrev pub page : List ℕ → List ℕ → ℕ → List ℕ → List Valued → Nodes → Paged
page file ns at local attrs kids = record { name = file; tree = record { head = head ns at local attrs; children = kids } }

abbrev pub at : ℕ → ℕ → Rule → Found
at page offset rule = record { place = record { page = page; offset = offset }; rule = rule }

abbrev pub no_bases : Located → List ℕ
no_bases e = []

abbrev pub link : List ℕ
link = codes "http://www.xbrl.org/2003/role/link"

abbrev pub footnote : List ℕ
footnote = codes "http://www.xbrl.org/2003/role/footnote"

abbrev pub fact_footnote : List ℕ
fact_footnote = codes "http://www.xbrl.org/2003/arcrole/fact-footnote"
