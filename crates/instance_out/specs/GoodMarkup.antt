-- What the parts of a content keep so that their markup is fine (XML 1.0, section 2.2; Namespaces in XML 1.0, sections 2 to 4):
-- names, allowed characters, depth, and namespaces that prefixes may be bound to.
use Rattle.std.specs.Prelude.{ℕ, zero, suc, Bool, true, false, ◌&&◌, not, List, [], Option, Some, None, bytes_eq}
use Rattle.std.specs.List.{list_all}
use Rattle.ix_base.specs.declared.content.Accuracy.{Accuracy}
use Rattle.ix_base.specs.declared.content.Accuracy.TheVariants as accuracy
use Rattle.ix_base.specs.declared.content.Arc.{Arc}
use Rattle.ix_base.specs.declared.content.Context.{Context}
use Rattle.ix_base.specs.declared.content.Dim.{Dim}
use Rattle.ix_base.specs.declared.content.Footnote.{Footnote}
use Rattle.ix_base.specs.declared.content.Item.{Item}
use Rattle.ix_base.specs.declared.content.Linkbase.{Linkbase}
use Rattle.ix_base.specs.declared.content.Member.{Member}
use Rattle.ix_base.specs.declared.content.Member.TheVariants as member
use Rattle.ix_base.specs.declared.content.NoteLink.{NoteLink}
use Rattle.ix_base.specs.declared.content.OwnName.{OwnName}
use Rattle.ix_base.specs.declared.content.Period.{Period}
use Rattle.ix_base.specs.declared.content.Period.TheVariants as period
use Rattle.ix_base.specs.declared.content.RoleRef.{RoleRef}
use Rattle.ix_base.specs.declared.content.Unit.{Unit as UnitContent}
use Rattle.ix_base.specs.declared.content.Value.{Value}
use Rattle.ix_base.specs.declared.content.Value.TheVariants as value
use Rattle.ix_base.specs.Facts.{Facts, none, item, tuple}
use Rattle.ix_base.specs.Namespaces.{xml_namespace, xmlns_namespace}
use Rattle.ix_base.specs.NcName.{is_ncname, are_allowed}
use Rattle.ix_base.specs.Scope.{scope_under, outermost}
use Rattle.ix_base.specs.Trees.{Bound}
use Rattle.ix_base.specs.WrittenMarkup.{Markup, nothing, node, leaf}
use Rattle.instance_lines.specs.Canonical.{Spaces}
use Rattle.instance_lines.specs.Moments.{start_text as start_moment, end_text as end_moment}
use Rattle.instance_lines.specs.Prefixes.{declared_for}
use Rattle.page_tree.specs.FineMarkup.{is_fine}

-- Scopes and elements.

-- the scope of a root that declares what these namespaces need
unfoldable pub declared_scope : Spaces → List Bound
declared_scope spaces = scope_under outermost (declared_for spaces)

-- a namespace that a prefix of its own may be bound to
abbrev pub is_space : List ℕ → Bool
is_space s = are_allowed s && (not (bytes_eq s xmlns_namespace) && (not (bytes_eq s []) && not (bytes_eq s xml_namespace)))

-- one element
abbrev pub is_element : Markup → Bool
is_element (node name attrs kids nothing) = true
is_element (leaf name attrs nothing) = true
is_element m = false

-- Parts of contents: allowed characters in their texts, and NCNames as local names.

abbrev pub allowed_if : Option (List ℕ) → Bool
allowed_if None = true
allowed_if (Some t) = are_allowed t

abbrev pub good_linkbase : Linkbase → Bool
good_linkbase l = are_allowed l.href && allowed_if l.role

abbrev pub good_role : RoleRef → Bool
good_role r = are_allowed r.uri && are_allowed r.href

abbrev pub good_name : OwnName → Bool
good_name n = is_ncname n.local

-- a period, by how it is written
abbrev pub good_period : Period → Bool
good_period (period.Instant end) = are_allowed (end_moment end)
good_period (period.Duration start end) = are_allowed (start_moment start) && are_allowed (end_moment end)
good_period period.Forever = true

abbrev pub good_member : Member → Bool
good_member (member.Explicit name) = good_name name
good_member (member.Typed name text) = good_name name && are_allowed text

abbrev pub good_dim : Dim → Bool
good_dim d = good_name d.dimension && good_member d.member

abbrev pub good_context : Context → Bool
good_context c =
    are_allowed c.id && (are_allowed c.scheme && (are_allowed c.identifier && (list_all good_dim c.segment && (list_all good_dim c.scenario && good_period c.period))))

abbrev pub good_unit : UnitContent → Bool
good_unit u = are_allowed u.id && (list_all good_name u.over && list_all good_name u.under)

abbrev pub good_accuracy : Option Accuracy → Bool
good_accuracy None = true
good_accuracy (Some (accuracy.Decimals n)) = are_allowed n
good_accuracy (Some (accuracy.Precision n)) = are_allowed n

abbrev pub good_value : Value → Bool
good_value value.Nil = true
good_value (value.Plain text) = are_allowed text
good_value (value.Fraction above below) = are_allowed above && are_allowed below

abbrev pub good_item : Item → Bool
good_item i =
    good_name i.name && (are_allowed i.context && (allowed_if i.unit && (good_accuracy i.accuracy && (allowed_if i.id && good_value i.value))))

abbrev pub good_facts : Facts → Bool
good_facts none = true
good_facts (item i rest) = good_item i && good_facts rest
good_facts (tuple name id nil members rest) = (good_name name && allowed_if id) && (good_facts members && good_facts rest)

-- the elements of the facts are at most so deep
abbrev pub fit : Facts → ℕ → Bool
fit none depth = true
fit (item i rest) zero = false
fit (item i rest) (suc zero) = false
fit (item i rest) (suc (suc below)) = fit rest (suc (suc below))
fit (tuple name id nil members rest) zero = false
fit (tuple name id nil members rest) (suc below) = fit members below && fit rest (suc below)

-- a name in a namespace of allowed characters, and not in that of declarations
abbrev pub is_spaced : OwnName → Bool
is_spaced n = are_allowed n.ns && not (bytes_eq n.ns xmlns_namespace)

-- a footnote, whose body is given as markup
abbrev pub good_footnote : (List ℕ → Markup) → ℕ → List Bound → Footnote → Bool
good_footnote bodies below scope f =
    are_allowed f.id && (are_allowed f.role && (allowed_if f.title && (are_allowed f.lang && is_fine (bodies f.body) below scope)))

abbrev pub good_arc : Arc → Bool
good_arc a = are_allowed a.arcrole && (are_allowed a.from_id && (are_allowed a.to_id && are_allowed a.order))

-- a footnote link, with markup for each body
abbrev pub good_link : (List ℕ → Markup) → ℕ → List Bound → NoteLink → Bool
good_link bodies below scope l =
    are_allowed l.role && (list_all are_allowed l.locs && (list_all (good_footnote bodies below scope) l.footnotes && list_all good_arc l.arcs))
