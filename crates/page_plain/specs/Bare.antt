-- A page without its inline markup (Inline XBRL 1.1), and how it is written (XML 1.0, section 3.1; Namespaces in XML 1.0,
-- sections 5 and 6).
use Rattle.std.specs.Prelude.{ℕ, suc, ◌+◌, Bool, true, false, ◌&&◌, not, if◌then◌else◌, List, [], ◌∷◌, ◌++◌, length, map, filter, Option, Some, None, bytes_eq, codes, ◌==◌}
use Rattle.std.specs.Int.Digits.{digits_of}
use Rattle.ix_base.specs.Markup.{declaration, element_by, ends_short}
use Rattle.ix_base.specs.Namespaces.{ix_namespace, xml_namespace}
use Rattle.ix_base.specs.Once.{in_order}
use Rattle.ix_base.specs.SortedLists.{text_cmp}
use Rattle.ix_base.specs.Trees.{Named, Valued, Bound, Nodes, none, chars, elem, Tree}
use Rattle.ix_base.specs.WrittenMarkup.{Attribute, Markup, nothing, words, written}
use Rattle.page_tree.specs.FineMarkup.{declaring}

-- What some nodes show, by names, attributes and texts alone, in order: a text and what comes after it, or an element's
-- name, its attributes, its children and what comes after it. Where they stand and which prefixes are bound there isn't in it.
pub data Shown : Type 0 where
  blank : Shown
  letters : (text : List ℕ) → (rest : Shown) → Shown
  mark : (name : Named) → (attrs : List Valued) → (kids : Shown) → (rest : Shown) → Shown

abbrev pub shown_by : Nodes → Shown
shown_by none = blank
shown_by (chars text rest) = letters text (shown_by rest)
shown_by (elem head children rest) = mark head.name head.attrs (shown_by children) (shown_by rest)

-- a tree by its names, attributes and texts
abbrev pub shown_of : Tree → Shown
shown_of t = mark t.head.name t.head.attrs (shown_by t.children) blank

-- a name is in the namespace of Inline XBRL
abbrev pub is_inline : Named → Bool
is_inline n = bytes_eq n.ns ix_namespace

-- What becomes of an element: a header is dropped with all it holds, another inline element is opened and gives what its
-- children give, and any other is kept.
pub data Fate : Type 0 where
  Dropped : Fate
  Opened : Fate
  Kept : Fate

abbrev pub fate : Named → Fate
fate n = if is_inline n then (if bytes_eq n.local (codes "header") then Dropped else Opened) else Kept

-- the attributes that are kept, in their order
abbrev pub kept_attrs : List Valued → List Valued
kept_attrs attrs = filter (λ a. not (is_inline a.name)) attrs

-- a text in front of what is shown: neighbouring texts are joined, and an empty one is dropped
abbrev pub put_text : List ℕ → Shown → Shown
put_text [] rest = rest
put_text (c ∷ cs) blank = letters (c ∷ cs) blank
put_text (c ∷ cs) (letters text rest) = letters ((c ∷ cs) ++ text) rest
put_text (c ∷ cs) (mark name attrs kids rest) = letters (c ∷ cs) (mark name attrs kids rest)

-- what some nodes show without inline markup, in front of something else
abbrev pub bare_before : Nodes → Shown → Shown
bare_before none rest = rest
bare_before (chars text more) rest = put_text text (bare_before more rest)
bare_before (elem head children more) rest = elim (fate head.name) [
  | Dropped ↦ bare_before more rest
  | Opened ↦ bare_before children (bare_before more rest)
  | Kept ↦ mark head.name (kept_attrs head.attrs) (bare_before children blank) (bare_before more rest)
]

abbrev pub bare_nodes : Nodes → Shown
bare_nodes nodes = bare_before nodes blank

-- what a page shows without its inline markup, whose root is no inline element
abbrev pub bare : Tree → Shown
bare root = bare_nodes (elem root.head root.children none)

-- no name in it is in the namespace of Inline XBRL
abbrev pub are_plain_names : List Valued → Bool
are_plain_names [] = true
are_plain_names (a ∷ more) = not (is_inline a.name) && are_plain_names more

abbrev pub is_plain : Shown → Bool
is_plain blank = true
is_plain (letters text rest) = is_plain rest
is_plain (mark name attrs kids rest) = not (is_inline name) && (are_plain_names attrs && (is_plain kids && is_plain rest))

-- a namespace of attributes that needs a prefix of its own: the names in none have no prefix, and those of xml have that one
abbrev pub needs_prefix : List ℕ → Bool
needs_prefix ns = not (length ns == 0) && not (bytes_eq ns xml_namespace)

abbrev pub attr_spaces : List Valued → List (List ℕ)
attr_spaces [] = []
attr_spaces (a ∷ more) = if needs_prefix a.name.ns then a.name.ns ∷ attr_spaces more else attr_spaces more

-- the namespaces of attributes that need one, as they come
abbrev pub spaces_in : Shown → List (List ℕ)
spaces_in blank = []
spaces_in (letters text rest) = spaces_in rest
spaces_in (mark name attrs kids rest) = attr_spaces attrs ++ (spaces_in kids ++ spaces_in rest)

-- in byte order, each once
abbrev pub spaces_of : Shown → List (List ℕ)
spaces_of s = in_order text_cmp (spaces_in s)

-- the prefix of this number: `a1`, `a2` and so on
abbrev pub prefix_at : ℕ → List ℕ
prefix_at k = 97 ∷ map (λ d. 48 + d) (digits_of 10 k)

abbrev pub numbered : ℕ → List (List ℕ) → List Bound
numbered k [] = []
numbered k (ns ∷ more) = record { prefix = prefix_at k; ns = ns } ∷ numbered (suc k) more

-- the prefixes that the root declares
abbrev pub prefixes_of : Shown → List Bound
prefixes_of s = numbered 1 (spaces_of s)

-- the first prefix that is bound to the namespace
abbrev pub prefix_in : List Bound → List ℕ → Option (List ℕ)
prefix_in [] ns = None
prefix_in (b ∷ bs) ns = if bytes_eq ns b.ns then Some b.prefix else prefix_in bs ns

-- a local name behind a prefix, if there is one
abbrev pub qualified : Option (List ℕ) → List ℕ → List ℕ
qualified None local = local
qualified (Some prefix) local = prefix ++ 58 ∷ local

-- the name of an attribute as it is written: in no namespace it has no prefix
abbrev pub attr_name : List Bound → Named → List ℕ
attr_name bs n =
    if length n.ns == 0 then n.local
    else (if bytes_eq n.ns xml_namespace then codes "xml:" ++ n.local else qualified (prefix_in bs n.ns) n.local)

abbrev pub attr_in : List Bound → Valued → Attribute
attr_in bs a = record { name = attr_name bs a.name; value = a.value }

abbrev pub is_blank : Shown → Bool
is_blank blank = true
is_blank (letters text rest) = false
is_blank (mark name attrs kids rest) = false

-- the attributes of an element as they are written within a namespace, with these declarations
abbrev pub attrs_in : List Bound → List Bound → List ℕ → Named → List Valued → List Attribute
attrs_in declared bs around name attrs = declaration around name.ns ++ (map declaring declared ++ map (attr_in bs) attrs)

-- what is shown as it is written within a namespace, under these prefixes
abbrev pub spelled : List Bound → List ℕ → Shown → Markup
spelled bs around blank = nothing
spelled bs around (letters text rest) = words text (spelled bs around rest)
spelled bs around (mark name attrs kids rest) =
    element_by (ends_short name && is_blank kids) name.local (attrs_in [] bs around name attrs) (spelled bs name.ns kids)
    (spelled bs around rest)

-- The same of a page, whose root declares the prefixes and is written within no namespace.
abbrev pub spelled_root : List Bound → Shown → Markup
spelled_root bs blank = nothing
spelled_root bs (letters text rest) = nothing
spelled_root bs (mark name attrs kids rest) =
    element_by (ends_short name && is_blank kids) name.local (attrs_in bs bs [] name attrs) (spelled bs name.ns kids) nothing

-- the bytes of a page that shows this, with a line feed behind its root
abbrev pub spell : Shown → List ℕ
spell s = written (spelled_root (prefixes_of s) s) (10 ∷ [])
