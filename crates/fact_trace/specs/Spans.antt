-- Where the texts of items stand on their pages, and what stands there says (Inline XBRL 1.1, continuation and exclude).
use Rattle.std.specs.Prelude.{ℕ, zero, suc, ◌==◌, Bool, ◌&&◌, if◌then◌else◌, List, [], ◌∷◌, ◌++◌, map, filter, flat_map, Option, Some, None, unwrap_or, bytes_eq, codes, slice_index_or}
use Rattle.std.specs.List.{list_any}
use Rattle.std.specs.Ordering.{nat_cmp, on, then_cmp}
use Rattle.std.specs.declared.cmp.Ordering.{Ordering}
use Rattle.ix_base.specs.declared.kind.Kind.{Kind}
use Rattle.ix_base.specs.declared.kind.Kind.TheVariants as kind
use Rattle.ix_base.specs.Asks.{Asks, asks}
use Rattle.ix_base.specs.Chain.{chain}
use Rattle.ix_base.specs.Kinds.{kind_of}
use Rattle.ix_base.specs.LocatedElements.{Located, Paged, is_item, is_nil, marked, offset_of}
use Rattle.ix_base.specs.Namespaces.{ix_namespace}
use Rattle.ix_base.specs.OwnNames.{own}
use Rattle.ix_base.specs.Readers.{fact_name}
use Rattle.ix_base.specs.SortedLists.{sorted, text_cmp}
use Rattle.ix_base.specs.Trees.{Named, Nodes, none, chars, elem, Tree}
use Rattle.facts.specs.FractionValue.{part_in}
use Rattle.facts.specs.NumberValue.{nested_in}
use Rattle.page_constructs.specs.Meanings.{meant}
use Rattle.page_tree.specs.Reaches.{Reach, reaches}
use Rattle.page_constructs.specs.Tokens.{Token, start, close, words, refer, section}
use Rattle.fact_trace.specs.declared.moves.Move.{Move}
use Rattle.fact_trace.specs.declared.moves.Move.TheVariants.{Opens, Closes, Says, Passes}
use Rattle.fact_trace.specs.declared.span.Span.{Span}
use Rattle.fact_trace.specs.declared.span.Traced.{Traced}

-- what a construct gives to the tree: the characters of a text, a reference or a section
abbrev pub says_by : Option Token → List ℕ
says_by None = []
says_by (Some (words w)) = w
says_by (Some (refer (Some c))) = c
says_by (Some (section w)) = w
says_by (Some t) = []

abbrev pub says : Reach → List ℕ
says r = says_by (meant r.what)

-- what a construct does on the way through an element: the tag at an offset opens an element, an end tag closes the innermost,
-- a text, a reference or a section says something, and all else is passed over
abbrev pub move_by : Option Token → Move
move_by None = Passes
move_by (Some (start t)) = Opens t.offset
move_by (Some (close name)) = Closes
move_by (Some (words w)) = Says
move_by (Some (refer c)) = Says
move_by (Some (section w)) = Says
move_by (Some t) = Passes

abbrev pub move : Reach → Move
move r = move_by (meant r.what)

-- of how many open elements the innermost ones stand in one that is left out, where one more opens that is left out or not
abbrev pub muted_in : Bool → ℕ → ℕ
muted_in left zero = if left then 1 else 0
muted_in left (suc m) = suc (suc m)

abbrev pub fewer : ℕ → ℕ
fewer zero = zero
fewer (suc m) = m

-- a construct that says something is heard outside the elements that are left out
abbrev pub heard_by : ℕ → Reach → List Reach → List Reach
heard_by zero r rest = r ∷ rest
heard_by (suc m) r rest = rest

-- an end tag closes the innermost open element, or else the element through which the way goes, where it ends
abbrev pub closing : ℕ → (ℕ → List Reach) → List Reach
closing zero on = []
closing (suc deep) on = on deep

-- What says something from here to the end tag of the element, outside the elements in it that are left out: so many elements
-- are open in it, of which so many, the innermost ones, stand in one that is left out. The test tells by a tag's offset which
-- elements those are.
abbrev pub heard : (ℕ → Bool) → ℕ → ℕ → List Reach → List Reach
heard out deep muted [] = []
heard out deep muted (r ∷ rs) = elim (move r) [
  | Opens at ↦ heard out (suc deep) (muted_in (out at) muted) rs
  | Closes ↦ closing deep (λ d. heard out d (fewer muted) rs)
  | Says ↦ heard_by muted r (heard out deep muted rs)
  | Passes ↦ heard out deep muted rs
]

-- an element whose tag is an empty-element tag holds nothing
abbrev pub held_by : Move → List Reach → List Reach
held_by (Opens at) inner = inner
held_by Closes inner = []
held_by Says inner = []
held_by Passes inner = []

-- the same of the element whose tag starts at this offset
abbrev pub heard_at : (ℕ → Bool) → ℕ → List Reach → List Reach
heard_at out at [] = []
heard_at out at (r ∷ rs) = if r.what.start == at then held_by (move r) (heard out 0 0 rs) else heard_at out at rs

-- an element that is left out of texts
abbrev pub is_left_out : Named → Bool
is_left_out n = bytes_eq n.ns ix_namespace && bytes_eq n.local (codes "exclude")

-- the offsets of those among some nodes and below
abbrev pub left_out : Nodes → List ℕ
left_out none = []
left_out (chars text rest) = left_out rest
left_out (elem head children rest) =
    (if is_left_out head.name then head.offset ∷ [] else []) ++ (left_out children ++ left_out rest)

abbrev pub is_among : List ℕ → ℕ → Bool
is_among offsets at = list_any (λ o. o == at) offsets

-- The texts, references and sections of a page that stand inside an element of it, and inside no ix:exclude that is itself
-- inside it, in the order of the page.
abbrev pub element_spans : List ℕ → Tree → List Reach
element_spans b t = heard_at (is_among (left_out t.children)) t.head.offset (reaches b)

-- a page as it is handed over, with its tree
pub record Source : Type 0 where
  pub name : List ℕ
  pub bytes : List ℕ
  pub tree : Tree

-- an element, with the number of its page
pub record Lying : Type 0 where
  pub page : ℕ
  pub tree : Tree

abbrev pub lying_at : Located → Lying
lying_at e = record { page = e.page; tree = e.placed.tree }

abbrev pub there : ℕ → Option Tree → List Lying
there page None = []
there page (Some t) = record { page = page; tree = t } ∷ []

-- the part of a fraction that has this local name
abbrev pub part_of : List ℕ → Located → List Lying
part_of local e = there e.page (part_in local e.placed.tree.children)

-- the innermost nonFraction in a nonFraction, or itself
abbrev pub number_in : Located → Lying
number_in e = record { page = e.page; tree = unwrap_or (nested_in e.placed.tree.children) e.placed.tree }

-- the elements whose text is an item's: those of its chain, its numerator and then its denominator, or itself or the
-- nonFraction in it
abbrev pub text_elements_as : Kind → Asks Located → Located → List Lying
text_elements_as kind.NonNumeric a e = map lying_at (chain a e)
text_elements_as kind.Fraction a e = part_of (codes "numerator") e ++ part_of (codes "denominator") e
text_elements_as k a e = number_in e ∷ []

abbrev pub text_elements : Asks Located → Located → List Lying
text_elements a e = text_elements_as (kind_of e.placed) a e

-- a construct as a span of the page of this name
abbrev pub span_of : List ℕ → Reach → Span
span_of name r = record { page = name; start = r.what.start; end = r.end }

abbrev pub no_source : Source
no_source = record {
  name = [];
  bytes = [];
  tree = record { head = record { offset = 0; name = record { ns = []; local = [] }; attrs = []; scope = [] }; children = none };
}

abbrev pub source_at : List Source → ℕ → Source
source_at ps n = slice_index_or ps n no_source

-- the spans of a text element, and what they say, joined
abbrev pub spans_in : List Source → Lying → List Span
spans_in ps l = map (span_of (source_at ps l.page).name) (element_spans (source_at ps l.page).bytes l.tree)

-- what is asked of the elements of the pages
abbrev pub paged : Source → Paged
paged p = record { name = p.name; tree = p.tree }

abbrev pub elements : List Source → List Located
elements ps = marked (map paged ps)

-- the spans of an item, in the order of its text elements and then of the page; a nil one has none
abbrev pub spans : List Source → Located → List Span
spans ps e = if is_nil e then [] else flat_map (spans_in ps) (text_elements (asks (elements ps)) e)

-- what a span of a page with these bytes says: the characters of its construct
abbrev pub said_in : List Reach → Span → List ℕ
said_in [] s = []
said_in (r ∷ rs) s = if r.what.start == s.start then says r else said_in rs s

abbrev pub said : List ℕ → Span → List ℕ
said b s = said_in (reaches b) s

-- the same of a span of the page that has its name
abbrev pub bytes_of : List Source → List ℕ → List ℕ
bytes_of [] name = []
bytes_of (p ∷ ps) name = if bytes_eq p.name name then p.bytes else bytes_of ps name

abbrev pub said_on : List Source → Span → List ℕ
said_on ps s = said (bytes_of ps s.page) s

-- an item with its spans
abbrev pub traced_of : List Source → Located → Traced
traced_of ps e = record {
  page = (source_at ps e.page).name;
  offset = offset_of e;
  name = own (fact_name e.placed.tree);
  nil = is_nil e;
  spans = spans ps e;
}

-- by the bytes of the page's name, then by offset
abbrev pub traced_cmp : Traced → Traced → Ordering
traced_cmp = then_cmp (on (λ t. t.page) text_cmp) (on (λ t. t.offset) nat_cmp)

-- all items of some pages
abbrev pub traces : List Source → List Traced
traces ps = sorted traced_cmp (map (traced_of ps) (filter is_item (elements ps)))
