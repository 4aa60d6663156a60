-- Proper contents: those whose canonical texts are read back. Fourteen tests, and what is said of the bodies of footnotes.
use Rattle.std.specs.Prelude.{◌≡◌, ℕ, ◌*◌, nat_lt, nat_le, Bool, true, false, not, ◌&&◌, ◌||◌, pos, List, [], ◌∷◌, ◌++◌, map, flat_map, Option, Some, None, if◌then◌else◌, bytes_eq, codes, is_some}
use Rattle.std.specs.List.{list_any, list_all}
use Rattle.std.specs.Ordering.{on}
use Rattle.ix_base.specs.declared.limits.TheConstants.{DEEPEST_TUPLE}
use Rattle.ix_base.specs.declared.content.Accuracy.{Accuracy}
use Rattle.ix_base.specs.declared.content.Accuracy.TheVariants as accuracy
use Rattle.ix_base.specs.declared.content.Context.{Context}
use Rattle.ix_base.specs.declared.content.Dim.{Dim}
use Rattle.ix_base.specs.declared.content.Footnote.{Footnote}
use Rattle.ix_base.specs.declared.content.NoteLink.{NoteLink}
use Rattle.ix_base.specs.declared.content.OwnName.{OwnName}
use Rattle.ix_base.specs.declared.content.Period.{Period}
use Rattle.ix_base.specs.declared.content.Period.TheVariants as period
use Rattle.ix_base.specs.declared.content.Unit.{Unit as UnitContent}
use Rattle.ix_base.specs.declared.content.Value.{Value}
use Rattle.ix_base.specs.declared.content.Value.TheVariants as value
use Rattle.ix_base.specs.ContextForm.{by_dimension, stand_once}
use Rattle.ix_base.specs.Facts.{Facts, none, item, tuple}
use Rattle.ix_base.specs.Forms.{is_canonical_decimal, is_empty, is_normal_integer, is_whole_part, is_zero}
use Rattle.ix_base.specs.Markup.{markup}
use Rattle.ix_base.specs.Namespaces.{link_namespace, xbrli_namespace, xmlns_namespace}
use Rattle.ix_base.specs.NcName.{is_ncname, are_allowed}
use Rattle.ix_base.specs.OwnNames.{name_cmp}
use Rattle.ix_base.specs.SortedLists.{text_cmp}
use Rattle.ix_base.specs.Sound.{AreSound}
use Rattle.ix_base.specs.Token.{is_token}
use Rattle.ix_base.specs.Trees.{Nodes}
use Rattle.instance_lines.specs.Canonical.{line_cmp, arc_line_cmp, fact_names, schema_markup, linkbase_markup, role_markup, arcrole_markup, fact_markups}
use Rattle.instance_lines.specs.Holdings.{items_in, fact_ids, all_names, all_notes, all_arcs, all_texts, token_texts, said_spaces}
use Rattle.instance_lines.specs.Lists.{are_apart, is_within, of_option, rises, strictly}
use Rattle.ix_base.specs.PlainContents.{Said}
use Rattle.instance_lines.specs.Writable.{depth}

-- 1. Ids are NCNames, and stand once. A footnote in two links counts as one.

abbrev pub same_option : Option (List ℕ) → Option (List ℕ) → Bool
same_option None None = true
same_option (Some a) (Some b) = bytes_eq a b
same_option a b = false

abbrev pub same_note : Footnote → Footnote → Bool
same_note f g = bytes_eq f.id g.id && bytes_eq f.role g.role && same_option f.title g.title && bytes_eq f.lang g.lang && bytes_eq f.body g.body

-- those that don't stand again later
abbrev pub counted_once : List Footnote → List Footnote
counted_once [] = []
counted_once (f ∷ fs) = if list_any (same_note f) fs then counted_once fs else f ∷ counted_once fs

abbrev pub all_ids : Said → List (List ℕ)
all_ids c = map (λ x. x.id) c.contexts ++ (map (λ u. u.id) c.units ++ (fact_ids c.facts ++ map (λ f. f.id) (counted_once (all_notes c))))

unfoldable pub ids_fit : Said → Bool
ids_fit c = list_all is_ncname (all_ids c) && are_apart (all_ids c)

-- 2. Names are NCNames, in no namespace of declarations; those of facts are in none of the standard's.

abbrev pub is_name : OwnName → Bool
is_name n = is_ncname n.local && not (bytes_eq n.ns xmlns_namespace)

abbrev pub is_fact_name : OwnName → Bool
is_fact_name n = not (bytes_eq n.ns xbrli_namespace || bytes_eq n.ns link_namespace)

unfoldable pub names_fit : Said → Bool
names_fit c = list_all is_name (all_names c) && list_all is_fact_name (fact_names c.facts)

-- 3. Characters are allowed ones.

unfoldable pub texts_fit : Said → Bool
texts_fit c = list_all are_allowed (all_texts c)

-- 4. Lists are in order; references, locators, footnotes and arcs stand once.

abbrev pub link_in_order : NoteLink → Bool
link_in_order l = strictly text_cmp l.locs && strictly (on (λ f. f.id) text_cmp) l.footnotes && strictly arc_line_cmp l.arcs

unfoldable pub lists_fit : Said → Bool
lists_fit c =
    strictly line_cmp (map schema_markup c.schemas) && strictly line_cmp (map linkbase_markup c.linkbases)
    && strictly line_cmp (map role_markup c.roles) && strictly line_cmp (map arcrole_markup c.arcroles)
    && rises (on (λ x. x.id) text_cmp) c.contexts && rises (on (λ u. u.id) text_cmp) c.units
    && rises line_cmp (fact_markups (said_spaces c) c.facts)
    && rises (on (λ l. l.role) text_cmp) c.notes && list_all link_in_order c.notes

-- 5. Contexts and units are those that items name.

unfoldable pub parts_fit : Said → Bool
parts_fit c =
    is_within (map (λ x. x.id) c.contexts) (map (λ i. i.context) (items_in c.facts))
    && is_within (map (λ i. i.context) (items_in c.facts)) (map (λ x. x.id) c.contexts)
    && is_within (map (λ u. u.id) c.units) (flat_map (λ i. of_option i.unit) (items_in c.facts))
    && is_within (flat_map (λ i. of_option i.unit) (items_in c.facts)) (map (λ u. u.id) c.units)

-- 6. Role and arcrole references are used, with one address each.

unfoldable pub roles_fit : Said → Bool
roles_fit c =
    is_within (map (λ r. r.uri) c.roles) (map (λ l. l.role) c.notes ++ map (λ f. f.role) (all_notes c))
    && is_within (map (λ r. r.uri) c.arcroles) (map (λ a. a.arcrole) (all_arcs c))
    && are_apart (map (λ r. r.uri) c.roles) && are_apart (map (λ r. r.uri) c.arcroles)

-- 7. Periods, dimensions and units are normal forms.

abbrev pub last_moment : ℕ
last_moment = 3652059 * 86400

abbrev pub is_normal_period : Period → Bool
is_normal_period (period.Instant (pos end)) = nat_lt 0 end && nat_le end last_moment
is_normal_period (period.Duration (pos start) (pos end)) = nat_lt start end && nat_le end last_moment
is_normal_period period.Forever = true
is_normal_period p = false

abbrev pub are_normal_dims : List Dim → Bool
are_normal_dims ds = stand_once (map (λ d. d.dimension) ds) && rises by_dimension ds

abbrev pub is_normal_context : Context → Bool
is_normal_context c = is_normal_period c.period && are_normal_dims c.segment && are_normal_dims c.scenario

abbrev pub is_normal_unit : UnitContent → Bool
is_normal_unit u = not (is_empty u.over) && rises name_cmp u.over && rises name_cmp u.under

unfoldable pub forms_fit : Said → Bool
forms_fit c = list_all is_normal_context c.contexts && list_all is_normal_unit c.units

-- 8. Accuracy stands exactly on a number with a unit, and such a number is a canonical decimal.

abbrev pub is_exact : Accuracy → Bool
is_exact (accuracy.Decimals n) = bytes_eq n (codes "INF") || is_normal_integer n
is_exact (accuracy.Precision n) = bytes_eq n (codes "INF") || is_whole_part n

-- of an item with a unit, and of one without
abbrev pub is_numeric : Option (List ℕ) → Value → Option Accuracy → Bool
is_numeric (Some u) (value.Plain text) None = false
is_numeric (Some u) (value.Plain text) (Some a) = is_exact a && is_canonical_decimal text
is_numeric (Some u) v None = true
is_numeric None v None = true
is_numeric u v (Some a) = false

unfoldable pub numbers_fit : Said → Bool
numbers_fit c = list_all (λ i. is_numeric i.unit i.value i.accuracy) (items_in c.facts)

-- 9. and 10. A fraction has a unit, and its parts are canonical decimals, the one below not zero.

abbrev pub is_unitless : Value → Bool
is_unitless value.Nil = true
is_unitless (value.Plain text) = true
is_unitless (value.Fraction above below) = false

unfoldable pub unitless_fit : Said → Bool
unitless_fit c = list_all (λ i. is_some i.unit || is_unitless i.value) (items_in c.facts)

abbrev pub is_ratio : Value → Bool
is_ratio (value.Fraction above below) = is_canonical_decimal above && is_canonical_decimal below && not (is_zero below)
is_ratio value.Nil = true
is_ratio (value.Plain text) = true

unfoldable pub fractions_fit : Said → Bool
fractions_fit c = list_all (λ i. is_ratio i.value) (items_in c.facts)

-- 11. A nil tuple has no members, and tuples stand no deeper than the limit.

abbrev pub is_none_nil : Bool → Facts → Bool
is_none_nil true none = true
is_none_nil true (item i rest) = false
is_none_nil true (tuple name id nil members rest) = false
is_none_nil false members = true

abbrev pub nil_is_empty : Facts → Bool
nil_is_empty none = true
nil_is_empty (item i rest) = nil_is_empty rest
nil_is_empty (tuple name id nil members rest) = is_none_nil nil members && nil_is_empty members && nil_is_empty rest

unfoldable pub tuples_fit : Said → Bool
tuples_fit c = nil_is_empty c.facts && nat_le (depth c.facts) DEEPEST_TUPLE

-- 12. Footnote links: their locators and footnotes are those that their arcs name, and each locator is a fact.

abbrev pub note_ids : NoteLink → List (List ℕ)
note_ids l = map (λ f. f.id) l.footnotes

abbrev pub arc_ends : NoteLink → List (List ℕ)
arc_ends l = flat_map (λ a. a.from_id ∷ a.to_id ∷ []) l.arcs

abbrev pub is_whole_link : List (List ℕ) → NoteLink → Bool
is_whole_link facts l =
    not (is_empty l.arcs) && is_within (arc_ends l) (l.locs ++ note_ids l) && is_within (l.locs ++ note_ids l) (arc_ends l)
    && is_within l.locs facts

unfoldable pub links_fit : Said → Bool
links_fit c = list_all (is_whole_link (fact_ids c.facts)) c.notes

-- 13. Orders are canonical decimals.

unfoldable pub orders_fit : Said → Bool
orders_fit c = list_all (λ a. is_canonical_decimal a.order) (all_arcs c)

-- 14. Addresses, roles, schemes, identifiers and languages are tokens that aren't empty.

abbrev pub is_full : List ℕ → Bool
is_full text = not (is_empty text) && is_token text

unfoldable pub tokens_fit : Said → Bool
tokens_fit c = list_all is_full (token_texts c)

-- All tests, in order.
abbrev pub tests : Said → List Bool
tests c = ids_fit c ∷ names_fit c ∷ texts_fit c ∷ lists_fit c ∷ parts_fit c ∷ roles_fit c ∷ forms_fit c ∷ numbers_fit c ∷ unitless_fit c
    ∷ fractions_fit c ∷ tuples_fit c ∷ links_fit c ∷ orders_fit c ∷ tokens_fit c ∷ []

unfoldable pub is_proper : Said → Bool
is_proper c = list_all (λ b. b) (tests c)

-- 15. A body is the markup of some sound nodes with the empty namespace around them, links as they are written.
pub record IsBody (body : List ℕ) : Type 0 where
  pub nodes : Nodes
  pub sound : AreSound 255 nodes
  pub is : body ≡ markup None [] nodes

abbrev pub AreBodies : List Footnote → Type 0
AreBodies [] = Unit {0}
AreBodies (f ∷ fs) = IsBody f.body × AreBodies fs

pub record Proper (c : Said) : Type 0 where
  pub tested : is_proper c ≡ true
  pub bodies : AreBodies (all_notes c)
