-- The rules of elements (Inline XBRL 1.1): one row for each.
use Rattle.std.specs.Prelude.{ℕ, ◌+◌, ◌==◌, Bool, true, false, not, ◌&&◌, ◌||◌, List, [], ◌∷◌, ◌++◌, flat_map, Option, is_none, is_some, if◌then◌else◌, bytes_eq, codes}
use Rattle.std.specs.List.{list_any}
use Rattle.std.specs.Ordering.{int_eq}
use Rattle.std.specs.Option.{option_map_or, option_eq}
use Rattle.ix_base.specs.declared.kind.Kind.{Kind}
use Rattle.ix_base.specs.declared.kind.Kind.TheVariants as kind
use Rattle.ix_base.specs.declared.rule.Rule.{Rule}
use Rattle.ix_base.specs.declared.rule.Rule.TheVariants as rule
use Rattle.ix_base.specs.declared.place.Place.{Place}
use Rattle.ix_base.specs.declared.breach.Found.{Found}
use Rattle.ix_base.specs.Attributes.{value_of}
use Rattle.ix_base.specs.ContextForm.{context}
use Rattle.ix_base.specs.Elements.{Placed, path_of, elements_of}
use Rattle.ix_base.specs.Forms.{is_empty, is_name_token, is_qname_token, are_names, is_boolean, is_scale, is_sign, is_decimals, is_precision, is_order, is_some_token}
use Rattle.ix_base.specs.ElementContent.{is_blank, is_of, same_name, elements_in, named_in, element_alone}
use Rattle.ix_base.specs.Kinds.{ix_kind, kind_in, parent_kind, kind_of, is_inline, is_fact, near}
use Rattle.ix_base.specs.Scope.{is_qname}
use Rattle.ix_base.specs.Namespaces.{ix_namespace, link_namespace, xlink_namespace, xbrli_namespace}
use Rattle.ix_base.specs.Readers.{attr, token_at, name_at, nil_attr, is_nil, scale_of, lang_along}
use Rattle.ix_base.specs.ValueNames.{is_unbound}
use Rattle.ix_base.specs.Rows.{row}
use Rattle.ix_base.specs.Token.{token_of}
use Rattle.ix_base.specs.Trees.{Named, Valued, Nodes, none, chars, elem, Tree}
use Rattle.ix_base.specs.UnitForm.{unit}

-- Attributes.

-- the attributes that an element needs
abbrev pub required : Kind → List (List ℕ)
required kind.Continuation = codes "id" ∷ []
required kind.Footnote = codes "id" ∷ []
required kind.Fraction = codes "name" ∷ codes "contextRef" ∷ codes "unitRef" ∷ []
required kind.NonFraction = codes "name" ∷ codes "contextRef" ∷ codes "unitRef" ∷ []
required kind.NonNumeric = codes "name" ∷ codes "contextRef" ∷ []
required kind.Relationship = codes "fromRefs" ∷ codes "toRefs" ∷ []
required kind.Tuple = codes "name" ∷ []
required k = []

-- those that it may have besides
abbrev pub further : Kind → List (List ℕ)
further kind.Continuation = codes "continuedAt" ∷ []
further kind.Denominator = codes "format" ∷ codes "scale" ∷ codes "sign" ∷ []
further kind.Numerator = codes "format" ∷ codes "scale" ∷ codes "sign" ∷ []
further kind.Footnote = codes "continuedAt" ∷ codes "footnoteRole" ∷ []
further kind.Fraction = codes "order" ∷ codes "target" ∷ codes "tupleRef" ∷ []
further kind.NonFraction =
    codes "decimals" ∷ codes "precision" ∷ codes "format" ∷ codes "scale" ∷ codes "sign" ∷ codes "order" ∷ codes "target" ∷ codes "tupleRef" ∷ []
further kind.NonNumeric =
    codes "format" ∷ codes "escape" ∷ codes "continuedAt" ∷ codes "order" ∷ codes "target" ∷ codes "tupleRef" ∷ []
further kind.References = codes "target" ∷ []
further kind.Relationship = codes "arcrole" ∷ codes "linkRole" ∷ codes "order" ∷ []
further kind.Tuple = codes "order" ∷ codes "target" ∷ codes "tupleID" ∷ codes "tupleRef" ∷ []
further k = []

-- those that each may have
unfoldable pub common : List (List ℕ)
common = codes "id" ∷ codes "class" ∷ codes "style" ∷ codes "title" ∷ codes "lang" ∷ []

abbrev pub is_among : List (List ℕ) → List ℕ → Bool
is_among names local = list_any (λ n. bytes_eq n local) names

-- an attribute without a namespace that an element of this kind may not have
abbrev pub is_stray : Kind → Valued → Bool
is_stray k a =
    is_empty a.name.ns
    && not (is_among (required k) a.name.local || is_among (further k) a.name.local || is_among common a.name.local)

abbrev pub misses : Tree → List ℕ → Bool
misses t local = is_none (attr local t)

-- the attribute is there, and isn't of its form
abbrev pub lacks : (List ℕ → Bool) → Tree → List ℕ → Bool
lacks form t local = option_map_or (λ value. not (form value)) (attr local t) false

unfoldable pub name_tokens : List (List ℕ)
name_tokens =
    codes "id" ∷ codes "tupleID" ∷ codes "tupleRef" ∷ codes "contextRef" ∷ codes "unitRef" ∷ codes "continuedAt" ∷ codes "target" ∷ []

unfoldable pub qname_tokens : List (List ℕ)
qname_tokens = codes "name" ∷ codes "format" ∷ []

unfoldable pub name_lists : List (List ℕ)
name_lists = codes "fromRefs" ∷ codes "toRefs" ∷ []

unfoldable pub roles : List (List ℕ)
roles = codes "footnoteRole" ∷ codes "arcrole" ∷ codes "linkRole" ∷ []

-- the attribute is a qualified name whose prefix isn't in scope
abbrev pub lacks_space : Tree → List ℕ → Bool
lacks_space t local =
    option_map_or (λ value. is_qname (token_of value) && is_unbound t.head.scope (token_of value)) (attr local t) false

-- a namespace in which no fact has its name
abbrev pub is_reserved : Named → Bool
is_reserved n = bytes_eq n.ns xbrli_namespace || bytes_eq n.ns link_namespace

-- a nonFraction that isn't nil, and has neither decimals nor precision
abbrev pub lacks_accuracy : Kind → Tree → Bool
lacks_accuracy kind.NonFraction t = not (is_nil t) && misses t (codes "decimals") && misses t (codes "precision")
lacks_accuracy k t = false

abbrev pub breaks_required : Kind → Tree → Bool
breaks_required k t = list_any (misses t) (required k)

abbrev pub breaks_allowed : Kind → Tree → Bool
breaks_allowed k t = is_inline k && list_any (is_stray k) t.head.attrs

abbrev pub breaks_names : Kind → Tree → Bool
breaks_names k t =
    is_inline k
    && (list_any (lacks is_name_token t) name_tokens || list_any (lacks is_qname_token t) qname_tokens || list_any (lacks are_names t) name_lists)

abbrev pub breaks_spaces : Kind → Tree → Bool
breaks_spaces k t =
    (is_inline k && list_any (lacks_space t) qname_tokens)
    || (is_fact k && option_map_or is_reserved (name_at (codes "name") t) false)

abbrev pub breaks_booleans : Kind → Tree → Bool
breaks_booleans k t =
    (is_inline k && lacks is_boolean t (codes "escape"))
    || (is_fact k && option_map_or (λ value. not (is_boolean value)) (nil_attr t) false)

abbrev pub breaks_scale : Kind → Tree → Bool
breaks_scale k t = is_inline k && lacks is_scale t (codes "scale")

abbrev pub breaks_sign : Kind → Tree → Bool
breaks_sign k t = is_inline k && lacks is_sign t (codes "sign")

abbrev pub breaks_accuracy : Kind → Tree → Bool
breaks_accuracy k t =
    (is_inline k
    && (lacks is_decimals t (codes "decimals") || lacks is_precision t (codes "precision")
    || (is_some (attr (codes "decimals") t) && is_some (attr (codes "precision") t))))
    || lacks_accuracy k t

abbrev pub breaks_order : Kind → Tree → Bool
breaks_order k t = is_inline k && lacks is_order t (codes "order")

abbrev pub breaks_roles : Kind → Tree → Bool
breaks_roles k t = is_inline k && list_any (lacks is_some_token t) roles

-- Places.

-- facts, continuations and footnotes may stand in elements of this kind
abbrev pub may_hold_facts : Kind → Bool
may_hold_facts kind.Hidden = true
may_hold_facts kind.Tuple = true
may_hold_facts kind.NonNumeric = true
may_hold_facts kind.Continuation = true
may_hold_facts kind.Footnote = true
may_hold_facts kind.Exclude = true
may_hold_facts k = false

abbrev pub may_hold_numbers : Kind → Bool
may_hold_numbers kind.NonFraction = true
may_hold_numbers k = may_hold_facts k

abbrev pub may_hold_excludes : Kind → Bool
may_hold_excludes kind.NonNumeric = true
may_hold_excludes kind.Continuation = true
may_hold_excludes kind.Footnote = true
may_hold_excludes kind.Tuple = true
may_hold_excludes kind.Exclude = true
may_hold_excludes k = false

abbrev pub is_header : Kind → Bool
is_header kind.Header = true
is_header k = false

abbrev pub is_resources : Kind → Bool
is_resources kind.Resources = true
is_resources k = false

abbrev pub is_fraction : Kind → Bool
is_fraction kind.Fraction = true
is_fraction k = false

-- an element of this kind may stand under a parent of one kind, with a nearest ix ancestor of another, if it has one
abbrev pub may_stand : Kind → Kind → Option Kind → Bool
may_stand kind.Header parent nearest = is_none nearest
may_stand kind.Hidden parent nearest = is_header parent
may_stand kind.References parent nearest = is_header parent
may_stand kind.Resources parent nearest = is_header parent
may_stand kind.Relationship parent nearest = is_resources parent
may_stand kind.Numerator parent nearest = option_map_or is_fraction nearest false
may_stand kind.Denominator parent nearest = option_map_or is_fraction nearest false
may_stand kind.NonNumeric parent nearest = option_map_or may_hold_facts nearest true
may_stand kind.Fraction parent nearest = option_map_or may_hold_facts nearest true
may_stand kind.Tuple parent nearest = option_map_or may_hold_facts nearest true
may_stand kind.Continuation parent nearest = option_map_or may_hold_facts nearest true
may_stand kind.Footnote parent nearest = option_map_or may_hold_facts nearest true
may_stand kind.NonFraction parent nearest = option_map_or may_hold_numbers nearest true
may_stand kind.Exclude parent nearest = option_map_or may_hold_excludes nearest true
may_stand k parent nearest = true

-- what may stand in an element of one of four kinds: the kinds of its children
abbrev pub may_hold : Kind → Kind → Bool
may_hold kind.Header kind.Hidden = true
may_hold kind.Header kind.References = true
may_hold kind.Header kind.Resources = true
may_hold kind.Header k = false
may_hold kind.Hidden kind.Continuation = true
may_hold kind.Hidden kind.Footnote = true
may_hold kind.Hidden kind.Fraction = true
may_hold kind.Hidden kind.NonFraction = true
may_hold kind.Hidden kind.NonNumeric = true
may_hold kind.Hidden kind.Tuple = true
may_hold kind.Hidden k = false
may_hold kind.References kind.SchemaRef = true
may_hold kind.References kind.LinkbaseRef = true
may_hold kind.References k = false
may_hold kind.Resources kind.Context = true
may_hold kind.Resources kind.Unit = true
may_hold kind.Resources kind.Relationship = true
may_hold kind.Resources kind.RoleRef = true
may_hold kind.Resources kind.ArcroleRef = true
may_hold kind.Resources k = false
may_hold parent k = true

-- text of more than white space stands among some nodes
abbrev pub has_text : Nodes → Bool
has_text none = false
has_text (chars text rest) = not (is_blank text) || has_text rest
has_text (elem head children rest) = has_text rest

-- the four elements that hold elements alone
abbrev pub is_frame : Kind → Bool
is_frame kind.Header = true
is_frame kind.Hidden = true
is_frame kind.References = true
is_frame kind.Resources = true
is_frame k = false

-- Contents.

-- how many elements of the ix namespace, whose nearest ix ancestor holds these nodes, have this local name
abbrev pub parts_in : List ℕ → Nodes → ℕ
parts_in local none = 0
parts_in local (chars text rest) = parts_in local rest
parts_in local (elem head children rest) =
    (if bytes_eq head.name.ns ix_namespace then (if bytes_eq head.name.local local then 1 else 0) else parts_in local children) + parts_in local rest

abbrev pub is_number : Tree → Bool
is_number t = is_of t.head.name ix_namespace (codes "nonFraction")

-- no elements, or one nonFraction that isn't nil, beside white space
abbrev pub holds_number : Nodes → Bool
holds_number nodes =
    is_empty (elements_in nodes) || option_map_or (λ t. is_number t && not (is_nil t)) (element_alone nodes) false

-- two nonFractions differ in the unit, the scale or the format
abbrev pub differ : Tree → Tree → Bool
differ t u =
    not (option_eq bytes_eq (token_at (codes "unitRef") t) (token_at (codes "unitRef") u) && int_eq (scale_of t) (scale_of u)
    && option_eq same_name (name_at (codes "format") t) (name_at (codes "format") u))

-- an attribute with a token that isn't empty
abbrev pub has_some : List ℕ → List ℕ → Tree → Bool
has_some ns local t = option_map_or is_some_token (value_of t.head.attrs ns local) false

-- a reference has an address, and no other type than a simple one
abbrev pub refers : Tree → Bool
refers t =
    has_some xlink_namespace (codes "href") t
    && option_map_or (λ value. bytes_eq value (codes "simple")) (value_of t.head.attrs xlink_namespace (codes "type")) true

-- running text: what is excluded stands in it
abbrev pub is_running : Kind → Bool
is_running kind.NonNumeric = true
is_running kind.Continuation = true
is_running kind.Footnote = true
is_running k = false

-- The rules, by the kind of the element.

abbrev pub breaks_fraction : Kind → Tree → Bool
breaks_fraction kind.Fraction t =
    not (is_nil t) && not (parts_in (codes "numerator") t.children == 1 && parts_in (codes "denominator") t.children == 1)
breaks_fraction k t = false

abbrev pub breaks_number : Kind → Tree → Bool
breaks_number kind.NonFraction t = not (is_nil t) && not (holds_number t.children)
breaks_number k t = false

abbrev pub breaks_nested : Kind → Tree → Bool
breaks_nested kind.NonFraction t = not (is_nil t) && list_any (differ t) (named_in ix_namespace (codes "nonFraction") t.children)
breaks_nested k t = false

abbrev pub breaks_part : Kind → Tree → Bool
breaks_part kind.Numerator t = not (is_empty (elements_in t.children))
breaks_part kind.Denominator t = not (is_empty (elements_in t.children))
breaks_part k t = false

abbrev pub breaks_language : Kind → List Tree → Bool
breaks_language kind.Footnote path = not (option_map_or is_some_token (lang_along path) false)
breaks_language k path = false

abbrev pub breaks_reference : Kind → Tree → Bool
breaks_reference kind.SchemaRef t = not (refers t)
breaks_reference kind.LinkbaseRef t = not (refers t)
breaks_reference kind.RoleRef t = not (refers t && has_some [] (codes "roleURI") t)
breaks_reference kind.ArcroleRef t = not (refers t && has_some [] (codes "arcroleURI") t)
breaks_reference k t = false

abbrev pub breaks_context : Kind → Tree → Bool
breaks_context kind.Context t = is_none (context t)
breaks_context k t = false

abbrev pub breaks_unit : Kind → Tree → Bool
breaks_unit kind.Unit t = is_none (unit t)
breaks_unit k t = false

abbrev pub breaks_exclude : Kind → List Tree → Bool
breaks_exclude kind.Exclude above = not (list_any (λ t. is_running (ix_kind t.head.name)) above)
breaks_exclude k above = false

abbrev pub breaks_unknown : Kind → Tree → Bool
breaks_unknown k t = bytes_eq t.head.name.ns ix_namespace && not (is_inline k)

abbrev pub breaks_place : Kind → List Tree → Bool
breaks_place k above = not (may_stand k (parent_kind above) (near above))

abbrev pub breaks_children : Kind → Tree → Bool
breaks_children k t =
    is_frame k && (has_text t.children || list_any (λ u. not (may_hold k (kind_in k u.head.name))) (elements_in t.children))

-- an element of this kind breaks a rule
abbrev pub breaks_as : Kind → Placed → Rule → Bool
breaks_as k e rule.N1 = breaks_unknown k e.tree
breaks_as k e rule.N2 = breaks_required k e.tree
breaks_as k e rule.N3 = breaks_allowed k e.tree
breaks_as k e rule.N4 = breaks_names k e.tree
breaks_as k e rule.N5 = breaks_spaces k e.tree
breaks_as k e rule.N6 = breaks_booleans k e.tree
breaks_as k e rule.N7 = breaks_scale k e.tree
breaks_as k e rule.N8 = breaks_sign k e.tree
breaks_as k e rule.N9 = breaks_accuracy k e.tree
breaks_as k e rule.N10 = breaks_order k e.tree
breaks_as k e rule.N11 = breaks_roles k e.tree
breaks_as k e rule.N12 = breaks_place k e.above
breaks_as k e rule.N13 = breaks_children k e.tree
breaks_as k e rule.N14 = breaks_fraction k e.tree
breaks_as k e rule.N15 = breaks_number k e.tree
breaks_as k e rule.N16 = breaks_nested k e.tree
breaks_as k e rule.N17 = breaks_part k e.tree
breaks_as k e rule.N18 = breaks_language k (path_of e)
breaks_as k e rule.N19 = breaks_reference k e.tree
breaks_as k e rule.N20 = breaks_context k e.tree
breaks_as k e rule.N21 = breaks_unit k e.tree
breaks_as k e rule.N22 = breaks_exclude k e.above
breaks_as k e r = false

-- an element breaks a rule
abbrev pub breaks : Placed → Rule → Bool
breaks e r = breaks_as (kind_of e) e r

-- The table.

abbrev pub attribute_rules : List Rule
attribute_rules = rule.N1 ∷ rule.N2 ∷ rule.N3 ∷ rule.N4 ∷ rule.N5 ∷ rule.N6 ∷ rule.N7 ∷ rule.N8 ∷ rule.N9 ∷ rule.N10 ∷ rule.N11 ∷ []

abbrev pub place_rules : List Rule
place_rules = rule.N12 ∷ rule.N13 ∷ []

abbrev pub content_rules : List Rule
content_rules = rule.N14 ∷ rule.N15 ∷ rule.N16 ∷ rule.N17 ∷ rule.N18 ∷ rule.N19 ∷ rule.N20 ∷ rule.N21 ∷ rule.N22 ∷ []

abbrev pub element_rules : List Rule
element_rules = attribute_rules ++ (place_rules ++ content_rules)

-- those of some rules that an element at a place breaks
abbrev pub found_of : List Rule → Place → Placed → List Found
found_of rules place e = flat_map (λ r. row (breaks e r) (record { place = place; rule = r })) rules

-- the rules that an element at a place breaks
unfoldable pub found : Place → Placed → List Found
found place e = found_of element_rules place e

-- the rules that the elements of a page with this number break, element by element in document order
abbrev pub found_on : ℕ → Tree → List Found
found_on page t = flat_map (λ e. found (record { page = page; offset = e.tree.head.offset }) e) (elements_of t)
