-- The canonical text of a content, line by line (XBRL 2.1, sections 3 and 4; XLink 1.0).
use Rattle.std.specs.Prelude.{ℕ, Bool, true, false, List, [], ◌∷◌, ◌++◌, map, flat_map, Option, Some, None, codes}
use Rattle.std.specs.List.{concat}
use Rattle.std.specs.Ordering.{on}
use Rattle.std.specs.declared.cmp.Ordering.{Ordering}
use Rattle.ix_base.specs.declared.content.Accuracy.{Accuracy}
use Rattle.ix_base.specs.declared.content.Accuracy.TheVariants as accuracy
use Rattle.ix_base.specs.declared.content.Arc.{Arc}
use Rattle.ix_base.specs.declared.content.Content.{Content}
use Rattle.ix_base.specs.declared.content.Context.{Context}
use Rattle.ix_base.specs.declared.content.Dim.{Dim}
use Rattle.ix_base.specs.declared.content.Footnote.{Footnote}
use Rattle.ix_base.specs.declared.content.Item.{Item}
use Rattle.ix_base.specs.declared.content.Linkbase.{Linkbase}
use Rattle.ix_base.specs.declared.content.Member.{Member}
use Rattle.ix_base.specs.declared.content.Member.TheVariants as member
use Rattle.ix_base.specs.declared.content.NoteLink.{NoteLink}
use Rattle.ix_base.specs.declared.content.OwnName.{OwnName}
use Rattle.ix_base.specs.declared.content.Period.{Period}
use Rattle.ix_base.specs.declared.content.Period.TheVariants as period
use Rattle.ix_base.specs.declared.content.RoleRef.{RoleRef}
use Rattle.ix_base.specs.declared.content.Unit.{Unit as UnitContent}
use Rattle.ix_base.specs.declared.content.Value.{Value}
use Rattle.ix_base.specs.declared.content.Value.TheVariants as value
use Rattle.ix_base.specs.Facts.{Facts, none, item, tuple, facts_of}
use Rattle.ix_base.specs.Once.{in_order}
use Rattle.ix_base.specs.SortedLists.{sorted, text_cmp}
use Rattle.ix_base.specs.WrittenMarkup.{Attribute, Markup, nothing, words, node, leaf, verbatim, start_text, close_text, written}
use Rattle.instance_lines.specs.Moments.{start_text as start_moment, end_text as end_moment}
use Rattle.instance_lines.specs.Prefixes.{declaration, declared_for, name_text, spaces_of}

-- the namespaces that have prefixes of their own in an instance, in order
abbrev pub Spaces : Type 0
Spaces = List (List ℕ)

-- Markup.

abbrev pub attr : List ℕ → List ℕ → Attribute
attr name value = record { name = name; value = value }

-- an attribute, where there is a value
abbrev pub attr_if : List ℕ → Option (List ℕ) → List Attribute
attr_if name None = []
attr_if name (Some value) = attr name value ∷ []

-- a text, where it isn't empty
abbrev pub text_markup : List ℕ → Markup
text_markup [] = nothing
text_markup (c ∷ cs) = words (c ∷ cs) nothing

-- an element that holds a text, and what follows
abbrev pub text_element : List ℕ → List Attribute → List ℕ → Markup → Markup
text_element name attrs text rest = node name attrs (text_markup text) rest

-- each of some things, one behind another, and what follows
abbrev pub each_markup : {X : Type 0} → (X → Markup → Markup) → List X → Markup → Markup
each_markup f [] rest = rest
each_markup f (x ∷ xs) rest = f x (each_markup f xs rest)

-- an element around some things, where there are any, and what follows
abbrev pub around : {X : Type 0} → List ℕ → (X → Markup → Markup) → List X → Markup → Markup
around name f [] rest = rest
around name f (x ∷ xs) rest = node name [] (each_markup f (x ∷ xs) nothing) rest

-- Attributes of links.

abbrev pub type_attr : List ℕ → Attribute
type_attr kind = attr (codes "xlink:type") kind

abbrev pub href_attr : List ℕ → Attribute
href_attr href = attr (codes "xlink:href") href

-- References.

abbrev pub schema_markup : List ℕ → Markup
schema_markup href = leaf (codes "link:schemaRef") (type_attr (codes "simple") ∷ href_attr href ∷ []) nothing

abbrev pub linkbase_markup : Linkbase → Markup
linkbase_markup l =
    leaf (codes "link:linkbaseRef")
    (type_attr (codes "simple") ∷ href_attr l.href
    ∷ (attr_if (codes "xlink:role") l.role
    ++ attr (codes "xlink:arcrole") (codes "http://www.w3.org/1999/xlink/properties/linkbase") ∷ []))
    nothing

abbrev pub role_markup : RoleRef → Markup
role_markup r = leaf (codes "link:roleRef") (attr (codes "roleURI") r.uri ∷ type_attr (codes "simple") ∷ href_attr r.href ∷ []) nothing

abbrev pub arcrole_markup : RoleRef → Markup
arcrole_markup r =
    leaf (codes "link:arcroleRef") (attr (codes "arcroleURI") r.uri ∷ type_attr (codes "simple") ∷ href_attr r.href ∷ []) nothing

-- Contexts.

abbrev pub period_markup : Period → Markup
period_markup (period.Instant end) = text_element (codes "xbrli:instant") [] (end_moment end) nothing
period_markup (period.Duration start end) =
    text_element (codes "xbrli:startDate") [] (start_moment start) (text_element (codes "xbrli:endDate") [] (end_moment end) nothing)
period_markup period.Forever = leaf (codes "xbrli:forever") [] nothing

abbrev pub member_markup : Spaces → OwnName → Member → Markup → Markup
member_markup spaces dimension (member.Explicit name) rest =
    text_element (codes "xbrldi:explicitMember") (attr (codes "dimension") (name_text spaces dimension) ∷ []) (name_text spaces name) rest
member_markup spaces dimension (member.Typed name text) rest =
    node (codes "xbrldi:typedMember") (attr (codes "dimension") (name_text spaces dimension) ∷ [])
    (text_element (name_text spaces name) [] text nothing) rest

abbrev pub dim_markup : Spaces → Dim → Markup → Markup
dim_markup spaces d rest = member_markup spaces d.dimension d.member rest

abbrev pub context_markup : Spaces → Context → Markup
context_markup spaces c =
    node (codes "xbrli:context") (attr (codes "id") c.id ∷ [])
    (node (codes "xbrli:entity") []
    (text_element (codes "xbrli:identifier") (attr (codes "scheme") c.scheme ∷ []) c.identifier
    (around (codes "xbrli:segment") (dim_markup spaces) c.segment nothing))
    (node (codes "xbrli:period") [] (period_markup c.period)
    (around (codes "xbrli:scenario") (dim_markup spaces) c.scenario nothing)))
    nothing

-- Units.

abbrev pub measure_markup : Spaces → OwnName → Markup → Markup
measure_markup spaces n rest = text_element (codes "xbrli:measure") [] (name_text spaces n) rest

abbrev pub measures_markup : Spaces → List OwnName → Markup
measures_markup spaces ns = each_markup (measure_markup spaces) ns nothing

abbrev pub ratio_markup : Spaces → List OwnName → List OwnName → Markup
ratio_markup spaces over [] = measures_markup spaces over
ratio_markup spaces over (n ∷ ns) =
    node (codes "xbrli:divide") []
    (node (codes "xbrli:unitNumerator") [] (measures_markup spaces over)
    (node (codes "xbrli:unitDenominator") [] (measures_markup spaces (n ∷ ns)) nothing))
    nothing

abbrev pub unit_markup : Spaces → UnitContent → Markup
unit_markup spaces u = node (codes "xbrli:unit") (attr (codes "id") u.id ∷ []) (ratio_markup spaces u.over u.under) nothing

-- Facts.

abbrev pub accuracy_attrs : Option Accuracy → List Attribute
accuracy_attrs None = []
accuracy_attrs (Some (accuracy.Decimals n)) = attr (codes "decimals") n ∷ []
accuracy_attrs (Some (accuracy.Precision n)) = attr (codes "precision") n ∷ []

abbrev pub nil_attr : Attribute
nil_attr = attr (codes "xsi:nil") (codes "true")

abbrev pub item_attrs : Item → List Attribute
item_attrs i =
    attr (codes "contextRef") i.context ∷ (attr_if (codes "unitRef") i.unit ++ (accuracy_attrs i.accuracy ++ attr_if (codes "id") i.id))

-- a value in an element of this name with these attributes, and what follows
abbrev pub value_markup : List ℕ → List Attribute → Value → Markup → Markup
value_markup name attrs value.Nil rest = leaf name (attrs ++ nil_attr ∷ []) rest
value_markup name attrs (value.Plain text) rest = text_element name attrs text rest
value_markup name attrs (value.Fraction above below) rest =
    node name attrs (text_element (codes "xbrli:numerator") [] above (text_element (codes "xbrli:denominator") [] below nothing)) rest

abbrev pub item_markup : Spaces → Item → Markup → Markup
item_markup spaces i rest = value_markup (name_text spaces i.name) (item_attrs i) i.value rest

abbrev pub tuple_markup : List ℕ → Option (List ℕ) → Bool → Markup → Markup → Markup
tuple_markup name id true members rest = leaf name (attr_if (codes "id") id ++ nil_attr ∷ []) rest
tuple_markup name id false members rest = node name (attr_if (codes "id") id) members rest

-- facts one behind another
abbrev pub facts_markup : Spaces → Facts → Markup
facts_markup spaces none = nothing
facts_markup spaces (item i rest) = item_markup spaces i (facts_markup spaces rest)
facts_markup spaces (tuple name id nil members rest) =
    tuple_markup (name_text spaces name) id nil (facts_markup spaces members) (facts_markup spaces rest)

-- facts each by itself
abbrev pub fact_markups : Spaces → Facts → List Markup
fact_markups spaces none = []
fact_markups spaces (item i rest) = item_markup spaces i nothing ∷ fact_markups spaces rest
fact_markups spaces (tuple name id nil members rest) =
    tuple_markup (name_text spaces name) id nil (facts_markup spaces members) nothing ∷ fact_markups spaces rest

-- Footnote links.

abbrev pub locator_markup : List ℕ → Markup → Markup
locator_markup id rest =
    leaf (codes "link:loc") (type_attr (codes "locator") ∷ href_attr (35 ∷ id) ∷ attr (codes "xlink:label") id ∷ []) rest

-- the body is markup already
abbrev pub footnote_markup : Footnote → Markup → Markup
footnote_markup f rest =
    node (codes "link:footnote")
    (type_attr (codes "resource") ∷ attr (codes "xlink:label") f.id ∷ attr (codes "xlink:role") f.role
    ∷ (attr_if (codes "xlink:title") f.title ++ attr (codes "xml:lang") f.lang ∷ []))
    (verbatim f.body nothing) rest

abbrev pub arc_markup : Arc → Markup → Markup
arc_markup a rest =
    leaf (codes "link:footnoteArc")
    (type_attr (codes "arc") ∷ attr (codes "xlink:arcrole") a.arcrole ∷ attr (codes "xlink:from") a.from_id
    ∷ attr (codes "xlink:to") a.to_id ∷ attr (codes "order") a.order ∷ [])
    rest

-- Order.

-- by the bytes of what is written
abbrev pub by_text : {X : Type 0} → (X → Markup) → X → X → Ordering
by_text f = on (λ x. written (f x) []) text_cmp

abbrev pub arc_line_cmp : Arc → Arc → Ordering
arc_line_cmp = by_text (λ a. arc_markup a nothing)

abbrev pub link_markup : NoteLink → Markup
link_markup l =
    node (codes "link:footnoteLink") (type_attr (codes "extended") ∷ attr (codes "xlink:role") l.role ∷ [])
    (each_markup locator_markup (in_order text_cmp l.locs)
    (each_markup footnote_markup (sorted (on (λ f. f.id) text_cmp) l.footnotes)
    (each_markup arc_markup (sorted arc_line_cmp l.arcs)
    nothing)))
    nothing

-- Namespaces.

abbrev pub member_names : Member → List OwnName
member_names (member.Explicit name) = name ∷ []
member_names (member.Typed name text) = name ∷ []

abbrev pub dim_names : Dim → List OwnName
dim_names d = d.dimension ∷ member_names d.member

abbrev pub context_names : Context → List OwnName
context_names c = flat_map dim_names c.segment ++ flat_map dim_names c.scenario

abbrev pub unit_names : UnitContent → List OwnName
unit_names u = u.over ++ u.under

-- the names of facts, with those of the members of tuples
abbrev pub fact_names : Facts → List OwnName
fact_names none = []
fact_names (item i rest) = i.name ∷ fact_names rest
fact_names (tuple name id nil members rest) = name ∷ (fact_names members ++ fact_names rest)

-- the namespaces that need a prefix of their own, in a content with these facts
unfoldable pub content_spaces : Content → Facts → Spaces
content_spaces c facts = spaces_of (flat_map context_names c.contexts ++ (flat_map unit_names c.units ++ fact_names facts))

-- Lines.

-- markup on a line of its own
abbrev pub line : Markup → List ℕ
line m = written m (10 ∷ [])

abbrev pub line_cmp : Markup → Markup → Ordering
line_cmp = on line text_cmp

abbrev pub first_line : List ℕ
first_line = codes "<?xml version=\"1.0\" encoding=\"UTF-8\"?>\n"

abbrev pub root : List ℕ
root = codes "xbrli:xbrl"

abbrev pub last_line : List ℕ
last_line = close_text root ++ 10 ∷ []

-- the children of the root, in order: references each once, facts as often as they stand
unfoldable pub children : Spaces → Content → Facts → List Markup
children spaces c facts =
    in_order line_cmp (map schema_markup c.schemas)
    ++ (in_order line_cmp (map linkbase_markup c.linkbases)
    ++ (in_order line_cmp (map role_markup c.roles)
    ++ (in_order line_cmp (map arcrole_markup c.arcroles)
    ++ (map (context_markup spaces) (sorted (on (λ x. x.id) text_cmp) c.contexts)
    ++ (map (unit_markup spaces) (sorted (on (λ u. u.id) text_cmp) c.units)
    ++ (sorted line_cmp (fact_markups spaces facts)
    ++ map link_markup (sorted (on (λ l. l.role) text_cmp) c.notes)))))))

-- the root's start tag, in an instance that has these further namespaces
unfoldable pub root_line : Spaces → List ℕ
root_line spaces = start_text root (map declaration (declared_for spaces)) ++ 10 ∷ []

-- the lines, each with its line feed
unfoldable pub lines_with : Content → Facts → List (List ℕ)
lines_with c facts =
    first_line
    ∷ root_line (content_spaces c facts)
    ∷ (map line (children (content_spaces c facts) c facts) ++ last_line ∷ [])

abbrev pub canon_lines : Content → List (List ℕ)
canon_lines c = lines_with c (facts_of c.facts)

-- the canonical text
abbrev pub canon : Content → List ℕ
canon c = concat (canon_lines c)
