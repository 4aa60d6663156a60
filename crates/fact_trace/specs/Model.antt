-- What is to be known of a tracer, and of its pages.
use Rattle.std.specs.Prelude.{◌≡◌, ◌<◌, ℕ, suc, Bool, false, List, [], ◌∷◌, All, Contains, length, map, refl}
use Rattle.ix_base.specs.declared.limits.TheConstants.{DEEPEST_ELEMENT}
use Rattle.std.specs.Coded.{Coded, code_by, coded×, coded_ℕ, coded_list, coded_bool}
use Rattle.ix_base.specs.Elements.{pages_of}
use Rattle.ix_base.specs.TreeCodes.{tree_code}
use Rattle.ix_base.specs.Trees.{Tree, tree_of}
use Rattle.id_table.specs.Model.{Held as HeldIndex}
use Rattle.page_tree.specs.Page.{page}
use Rattle.fact_trace.specs.Spans.{Lying, Source, elements, source_at}
use Rattle.fact_trace.specs.Walks.{IsOfPage}
use Rattle.fact_trace.specs.declared.page.Page.{Page}

-- its pages, in the order in which they came, and whether memory was wanting
pub record Held : Type 0 where
  pub sources : List Source
  pub is_spent : Bool

abbrev pub source_of : Page → Source
source_of p = record { name = p.name; bytes = p.bytes.now; tree = tree_of p.root.now }

abbrev pub sources_of : List Page → List Source
sources_of ps = map source_of ps

-- the roots are the trees of the bytes, and of pages numbered on from this number
abbrev pub ArePagesFrom : ℕ → List Page → Type 0
ArePagesFrom n [] = Unit {0}
ArePagesFrom n (p ∷ ps) = (page p.bytes.now DEEPEST_ELEMENT (tree_of p.root.now) × All (λ k. k ≡ n) (pages_of p.root.now)) × ArePagesFrom (suc n) ps

-- no name stands twice
abbrev pub AreNew : List (List ℕ) → Type 0
AreNew [] = Unit {0}
AreNew (n ∷ ns) = ¬ Contains ns n × AreNew ns

-- the tracer has an index of its pages, whose names are new
pub record Keeps (pages : List Page) (i : HeldIndex) : Type 0 where
  pub spots : i.spots ≡ elements (sources_of pages)
  pub unspent : i.is_spent ≡ false
  pub pages_are : ArePagesFrom 0 pages
  pub names : AreNew (map (λ p. p.name) (sources_of pages))

-- an element of one of the pages
pub record IsText (ps : List Source) (l : Lying) : Type 0 where
  pub within : l.page < length ps
  pub of_page : IsOfPage (source_at ps l.page).bytes l.tree

-- codes by which proofs tell tracers apart
abbrev pub source_code : Coded Source
source_code = code_by (List ℕ × (List ℕ × Tree)) (coded× (coded_list coded_ℕ) (coded× (coded_list coded_ℕ) tree_code))
    (λ p. (p.name, (p.bytes, p.tree))) (λ p. record { name = p.0; bytes = p.1.0; tree = p.1.1 }) (λ _. refl)

abbrev pub held_code : Coded Held
held_code = code_by (List Source × Bool) (coded× (coded_list source_code) coded_bool) (λ h. (h.sources, h.is_spent))
    (λ p. record { sources = p.0; is_spent = p.1 }) (λ _. refl)
