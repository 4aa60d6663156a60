-- A set of pages, and what stands in it.
use Rattle.std.specs.Prelude.{ℕ, List, map}
use Rattle.ix_base.specs.Address.{page_base}
use Rattle.ix_base.specs.Asks.{Asks, asks}
use Rattle.ix_base.specs.LocatedElements.{Located, Paged, base_in, marked}

-- pages in the order in which they came, and the base to which their names are joined
pub record PageSet : Type 0 where
  pub base : List ℕ
  pub pages : List Paged

-- the elements that links, facts and contents speak of, page by page, in document order
abbrev pub elements : PageSet → List Located
elements s = marked s.pages

-- what is asked of them
abbrev pub asked : PageSet → Asks Located
asked s = asks (elements s)

abbrev pub names : PageSet → List (List ℕ)
names s = map (λ p. p.name) s.pages

abbrev pub page_bases : PageSet → List (List ℕ)
page_bases s = map (λ p. page_base s.base p.name p.tree) s.pages

-- the base of an element
abbrev pub base_at : PageSet → Located → List ℕ
base_at s = base_in (page_bases s)
