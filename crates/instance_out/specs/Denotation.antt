-- What the tree of an instance denotes (XBRL 2.1, sections 3 and 4; XLink 1.0). Nothing here looks at an offset.
use Rattle.std.specs.Prelude.{◌≡◌, ℕ, Bool, true, false, ◌==◌, ◌&&◌, ◌||◌, List, [], ◌∷◌, ◌++◌, map, Option, Some, None, if◌then◌else◌, bytes_eq, codes}
use Rattle.std.specs.List.{list_any}
use Rattle.std.specs.Option.{option_map_or}
use Rattle.ix_base.specs.declared.content.Accuracy.{Accuracy}
use Rattle.ix_base.specs.declared.content.Accuracy.TheVariants as accuracy
use Rattle.ix_base.specs.declared.content.Arc.{Arc}
use Rattle.ix_base.specs.declared.content.Content.{Content}
use Rattle.ix_base.specs.declared.content.Footnote.{Footnote}
use Rattle.ix_base.specs.declared.content.Item.{Item}
use Rattle.ix_base.specs.declared.content.Linkbase.{Linkbase}
use Rattle.ix_base.specs.declared.content.NoteLink.{NoteLink}
use Rattle.ix_base.specs.declared.content.RoleRef.{RoleRef}
use Rattle.ix_base.specs.declared.content.Value.{Value}
use Rattle.ix_base.specs.declared.content.Value.TheVariants as value
use Rattle.ix_base.specs.Attributes.{value_of}
use Rattle.ix_base.specs.ContextForm.{context}
use Rattle.ix_base.specs.OwnNames.{own}
use Rattle.ix_base.specs.Facts.{Facts, item, tuple, facts_of}
use Rattle.ix_base.specs.Facts as F
use Rattle.ix_base.specs.Forms.{is_true}
use Rattle.ix_base.specs.ElementContent.{is_blank, is_of, elements_in, named_in, is_blank_beside, text_alone}
use Rattle.ix_base.specs.Namespaces.{link_namespace, xbrli_namespace, xlink_namespace, xml_namespace, xsi_namespace}
use Rattle.ix_base.specs.Steps.{◌>>=◌, each}
use Rattle.ix_base.specs.Trees.{Named, Valued, Head, Nodes, none, chars, elem, Tree}
use Rattle.ix_base.specs.UnitForm.{unit}
use Rattle.ix_base.specs.Markup.{markup}
use Rattle.instance_lines.specs.Lists.{are_apart}
use Rattle.ix_base.specs.PlainContents.{Said, said_of}

-- Attributes.

abbrev pub xlink_at : List ℕ → Tree → Option (List ℕ)
xlink_at local t = value_of t.head.attrs xlink_namespace local

-- what an element with this xlink:type denotes
abbrev pub typed_as : {A : Type 0} → List ℕ → Tree → Option A → Option A
typed_as kind t o = if option_map_or (bytes_eq kind) (xlink_at (codes "type") t) false then o else None

-- References.

unfoldable pub schema_in : Tree → Option (List ℕ)
schema_in t = typed_as (codes "simple") t (xlink_at (codes "href") t)

unfoldable pub linkbase_in : Tree → Option Linkbase
linkbase_in t = typed_as (codes "simple") t (do
  href ← xlink_at (codes "href") t
  arcrole ← xlink_at (codes "arcrole") t
  if bytes_eq arcrole (codes "http://www.w3.org/1999/xlink/properties/linkbase")
      then Some (record { href = href; role = xlink_at (codes "role") t })
      else None)

-- a reference by a URI in the attribute of this name
unfoldable pub reference_in : List ℕ → Tree → Option RoleRef
reference_in name t = typed_as (codes "simple") t (do
  uri ← value_of t.head.attrs [] name
  href ← xlink_at (codes "href") t
  Some (record { uri = uri; href = href }))

-- Facts.

-- one of the two, or neither
abbrev pub accuracy_by : Option (List ℕ) → Option (List ℕ) → Option (Option Accuracy)
accuracy_by None None = Some None
accuracy_by (Some n) None = Some (Some (accuracy.Decimals n))
accuracy_by None (Some n) = Some (Some (accuracy.Precision n))
accuracy_by (Some n) (Some m) = None

abbrev pub is_nil : List Valued → Bool
is_nil attrs = option_map_or is_true (value_of attrs xsi_namespace (codes "nil")) false

-- a numerator and a denominator, or a text alone
abbrev pub value_from : List Tree → Nodes → Option Value
value_from (t ∷ u ∷ []) nodes =
    if is_of t.head.name xbrli_namespace (codes "numerator") && is_of u.head.name xbrli_namespace (codes "denominator") && is_blank_beside nodes
    then (text_alone t.children >>= λ above. text_alone u.children >>= λ below. Some (value.Fraction above below))
    else None
value_from ts nodes = text_alone nodes >>= λ text. Some (value.Plain text)

-- what is nil says nothing, whatever it holds
abbrev pub value_by : Bool → Nodes → Option Value
value_by true nodes = Some value.Nil
value_by false nodes = value_from (elements_in nodes) nodes

unfoldable pub item_in : List ℕ → Head → Nodes → Option Item
item_in context head nodes = do
  accuracy ← accuracy_by (value_of head.attrs [] (codes "decimals")) (value_of head.attrs [] (codes "precision"))
  value ← value_by (is_nil head.attrs) nodes
  Some (record {
    name = own head.name;
    context = context;
    unit = value_of head.attrs [] (codes "unitRef");
    accuracy = accuracy;
    id = value_of head.attrs [] (codes "id");
    value = value;
  })

-- a nil tuple has no members
abbrev pub members_by : Bool → Option Facts → Option Facts
members_by true members = Some F.none
members_by false members = members

-- an element with a context is an item, and one without is a tuple, before the facts after it
abbrev pub fact_by : Option (List ℕ) → Head → Nodes → Option Facts → Facts → Option Facts
fact_by (Some context) head nodes members rest = item_in context head nodes >>= λ i. Some (item i rest)
fact_by None head nodes members rest =
    members_by (is_nil head.attrs) members
    >>= λ ms. Some (tuple (own head.name) (value_of head.attrs [] (codes "id")) (is_nil head.attrs) ms rest)

abbrev pub is_part : Named → Bool
is_part n = bytes_eq n.ns xbrli_namespace || bytes_eq n.ns link_namespace

abbrev pub outside : {A : Type 0} → Named → Option A → Option A
outside n o = if is_part n then None else o

-- the facts that some nodes denote, in document order, with white space among them
abbrev pub facts_in : Nodes → Option Facts
facts_in none = Some F.none
facts_in (chars text rest) = if is_blank text then facts_in rest else None
facts_in (elem head children rest) =
    facts_in rest >>= λ more. outside head.name (fact_by (value_of head.attrs [] (codes "contextRef")) head children (facts_in children) more)

-- some nodes without those elements that are no facts
abbrev pub facts_among : Nodes → Nodes
facts_among none = none
facts_among (chars text rest) = chars text (facts_among rest)
facts_among (elem head children rest) = if is_part head.name then facts_among rest else elem head children (facts_among rest)

-- Footnote links.

-- a label, and the id of what has it
abbrev pub Labelled : Type 0
Labelled = List ℕ × List ℕ

-- the id in a link to an element of the same instance
abbrev pub id_behind : List ℕ → Option (List ℕ)
id_behind [] = None
id_behind (c ∷ id) = if c == 35 then Some id else None

unfoldable pub locator_in : Tree → Option Labelled
locator_in t = typed_as (codes "locator") t (do
  label ← xlink_at (codes "label") t
  href ← xlink_at (codes "href") t
  id ← id_behind href
  Some (label, id))

-- the body is the markup of the children, links as they are written
unfoldable pub footnote_in : Tree → Option Footnote
footnote_in t = typed_as (codes "resource") t (do
  label ← xlink_at (codes "label") t
  role ← xlink_at (codes "role") t
  lang ← value_of t.head.attrs xml_namespace (codes "lang")
  Some (record { id = label; role = role; title = xlink_at (codes "title") t; lang = lang; body = markup None [] t.children }))

abbrev pub labelled : List Labelled → List ℕ → Option (List ℕ)
labelled [] label = None
labelled (l ∷ ls) label = if bytes_eq l.0 label then Some l.1 else labelled ls label

unfoldable pub arc_in : List Labelled → Tree → Option Arc
arc_in ends t = typed_as (codes "arc") t (do
  arcrole ← xlink_at (codes "arcrole") t
  first ← xlink_at (codes "from") t
  from_id ← labelled ends first
  last ← xlink_at (codes "to") t
  to_id ← labelled ends last
  order ← value_of t.head.attrs [] (codes "order")
  Some (record { arcrole = arcrole; from_id = from_id; to_id = to_id; order = order }))

abbrev pub ends_of : List Labelled → List Footnote → List Labelled
ends_of locs footnotes = locs ++ map (λ f. (f.id, f.id)) footnotes

unfoldable pub notes_in : Tree → Option NoteLink
notes_in t = typed_as (codes "extended") t (do
  role ← xlink_at (codes "role") t
  locs ← each locator_in (named_in link_namespace (codes "loc") t.children)
  footnotes ← each footnote_in (named_in link_namespace (codes "footnote") t.children)
  arcs ← each (arc_in (ends_of locs footnotes)) (named_in link_namespace (codes "footnoteArc") t.children)
  if are_apart (map (λ l. l.0) (ends_of locs footnotes))
      then Some (record { role = role; locs = map (λ l. l.1) locs; footnotes = footnotes; arcs = arcs })
      else None)

-- The whole.

abbrev pub link_names : List (List ℕ)
link_names = codes "schemaRef" ∷ codes "linkbaseRef" ∷ codes "roleRef" ∷ codes "arcroleRef" ∷ codes "footnoteLink" ∷ []

-- a fact, or one of the other parts of an instance
abbrev pub may_stand : Named → Bool
may_stand n =
    if bytes_eq n.ns link_namespace then list_any (bytes_eq n.local) link_names
    else (if bytes_eq n.ns xbrli_namespace then list_any (bytes_eq n.local) (codes "context" ∷ codes "unit" ∷ []) else true)

abbrev pub are_parts : Nodes → Bool
are_parts none = true
are_parts (chars text rest) = are_parts rest
are_parts (elem head children rest) = may_stand head.name && are_parts rest

-- what the children of the root denote: each kind in document order
unfoldable pub parts_in : Nodes → Option Said
parts_in nodes = do
  schemas ← each schema_in (named_in link_namespace (codes "schemaRef") nodes)
  linkbases ← each linkbase_in (named_in link_namespace (codes "linkbaseRef") nodes)
  roles ← each (reference_in (codes "roleURI")) (named_in link_namespace (codes "roleRef") nodes)
  arcroles ← each (reference_in (codes "arcroleURI")) (named_in link_namespace (codes "arcroleRef") nodes)
  contexts ← each context (named_in xbrli_namespace (codes "context") nodes)
  units ← each unit (named_in xbrli_namespace (codes "unit") nodes)
  facts ← facts_in (facts_among nodes)
  notes ← each notes_in (named_in link_namespace (codes "footnoteLink") nodes)
  if are_parts nodes
      then Some (record {
        schemas = schemas;
        linkbases = linkbases;
        roles = roles;
        arcroles = arcroles;
        contexts = contexts;
        units = units;
        facts = facts;
        notes = notes;
      })
      else None

unfoldable pub content_in : Tree → Option Said
content_in t = if is_of t.head.name xbrli_namespace (codes "xbrl") then parts_in t.children else None

-- the tree denotes the content
abbrev pub denotes : Tree → Content → Type 0
denotes t c = content_in t ≡ Some (said_of c)
