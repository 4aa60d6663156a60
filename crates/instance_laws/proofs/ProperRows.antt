-- A proper content, and for each point one that fails it alone.
use Rattle.std.proofs.Common.{◌≡◌, refl, ℕ, Bool, true, false, not, map, List, [], ◌∷◌, codes, Some, None, pos}
use Rattle.std.specs.Prelude.{◌==◌}
use Rattle.std.specs.Str.{chars as chars_of, is_utf8}
use lib.Utf8.{encode}
use Rattle.ix_base.specs.declared.content.Accuracy.TheVariants as accuracy
use Rattle.ix_base.specs.declared.content.Arc.{Arc}
use Rattle.ix_base.specs.declared.content.Context.{Context}
use Rattle.ix_base.specs.declared.content.Footnote.{Footnote}
use Rattle.ix_base.specs.declared.content.Item.{Item}
use Rattle.ix_base.specs.declared.content.Member.TheVariants as member
use Rattle.ix_base.specs.declared.content.NoteLink.{NoteLink}
use Rattle.ix_base.specs.declared.content.OwnName.{OwnName}
use Rattle.ix_base.specs.declared.content.Period.TheVariants as period
use Rattle.ix_base.specs.declared.content.Unit.{Unit as UnitContent}
use Rattle.ix_base.specs.declared.content.Value.TheVariants as value
use Rattle.ix_base.specs.Facts.{Facts, item, tuple}
use Rattle.ix_base.specs.Facts as F
use Rattle.ix_base.specs.NcName.{is_ncname, is_name_start, is_name_char, are_allowed, is_allowed}
use Rattle.ix_base.specs.Namespaces.{xml_namespace, iso4217_namespace, link_namespace, xbrldi_namespace, xbrli_namespace, xlink_namespace, xmlns_namespace, xsi_namespace}
use Rattle.ix_base.specs.PlainContents.{Said}
use Rattle.ix_base.specs.Token.{token_of, is_token}
use Rattle.ix_base.specs.Trees.{none, chars}
use Rattle.instance_lines.specs.Prefixes.{fixed, xml}
use Rattle.instance_out.specs.Proper.{Proper, IsBody, is_proper, tests, ids_fit, names_fit, texts_fit, lists_fit, parts_fit, roles_fit, forms_fit, numbers_fit, unitless_fit, fractions_fit, tuples_fit, links_fit, orders_fit, tokens_fit}

abbrev e : List ℕ → OwnName
e local = record { ns = codes "http://e"; local = local }

abbrev c1 : Context
c1 = record { id = codes "c1"; scheme = codes "s"; identifier = codes "42"; segment = []; scenario = []; period = period.Instant (pos 63839664000) }

abbrev c2 : Context
c2 = record {
  id = codes "c2";
  scheme = codes "s";
  identifier = codes "42";
  segment =
      record { dimension = e (codes "B"); member = member.Typed (e (codes "v")) (codes " x") }
      ∷ record { dimension = e (codes "D"); member = member.Explicit (e (codes "M")) }
      ∷ [];
  scenario = [];
  period = period.Forever;
}

abbrev u1 : UnitContent
u1 = record { id = codes "u1"; over = e (codes "m") ∷ []; under = [] }

abbrev u2 : UnitContent
u2 = record { id = codes "u2"; over = e (codes "m") ∷ e (codes "m") ∷ []; under = e (codes "s") ∷ [] }

abbrev a : Item
a = record { name = e (codes "A"); context = codes "c1"; unit = Some (codes "u1"); accuracy = Some (accuracy.Decimals (codes "-2")); id = Some (codes "f1"); value = value.Plain (codes "-1.5") }

abbrev b : Item
b = record { name = e (codes "B"); context = codes "c2"; unit = None; accuracy = None; id = Some (codes "f2"); value = value.Plain (codes " x ") }

abbrev z : Item
z = record { name = e (codes "C"); context = codes "c1"; unit = Some (codes "u2"); accuracy = None; id = None; value = value.Nil }

abbrev s : Item
s = record { name = e (codes "S"); context = codes "c1"; unit = Some (codes "u1"); accuracy = None; id = None; value = value.Fraction (codes "1") (codes "3") }

abbrev m : Item
m = record { name = e (codes "M"); context = codes "c1"; unit = None; accuracy = None; id = None; value = value.Plain [] }

abbrev t : Bool → Facts
t nil = tuple (e (codes "T")) (Some (codes "t1")) nil (item m F.none) F.none

abbrev n1 : Footnote
n1 = record { id = codes "n1"; role = codes "q"; title = None; lang = codes "en"; body = codes "x" }

abbrev arc : Arc
arc = record { arcrole = codes "w"; from_id = codes "f1"; to_id = codes "n1"; order = codes "1" }

abbrev l : NoteLink
l = record { role = codes "r"; locs = codes "f1" ∷ []; footnotes = n1 ∷ []; arcs = arc ∷ [] }

abbrev pub whole : Said
whole = record {
  schemas = codes "a" ∷ codes "b" ∷ [];
  linkbases = record { href = codes "k"; role = Some (codes "o") } ∷ [];
  roles = record { uri = codes "q"; href = codes "h" } ∷ record { uri = codes "r"; href = codes "h" } ∷ [];
  arcroles = record { uri = codes "w"; href = codes "h" } ∷ [];
  contexts = c1 ∷ c2 ∷ [];
  units = u1 ∷ u2 ∷ [];
  facts = item a (item b (item z (item s (t false))));
  notes = l ∷ [];
}

-- all tests pass but the one at this place, counted from 0
abbrev but : ℕ → List Bool
but n = map (λ k. not (k == n)) (0 ∷ 1 ∷ 2 ∷ 3 ∷ 4 ∷ 5 ∷ 6 ∷ 7 ∷ 8 ∷ 9 ∷ 10 ∷ 11 ∷ 12 ∷ 13 ∷ [])

row_proper : tests whole ≡ but 14
unfolding ids_fit names_fit texts_fit lists_fit parts_fit roles_fit forms_fit numbers_fit unitless_fit fractions_fit tuples_fit links_fit orders_fit tokens_fit is_ncname is_name_start is_name_char are_allowed is_allowed chars_of is_utf8 encode xmlns_namespace link_namespace xbrli_namespace xml_namespace iso4217_namespace xbrldi_namespace xlink_namespace xsi_namespace xml fixed token_of is_token
row_proper = refl

row_one_id : tests (record whole { facts = item a (item (record b { id = Some (codes "c1") }) (item z (item s (t false)))) }) ≡ but 0
unfolding ids_fit names_fit texts_fit lists_fit parts_fit roles_fit forms_fit numbers_fit unitless_fit fractions_fit tuples_fit links_fit orders_fit tokens_fit is_ncname is_name_start is_name_char are_allowed is_allowed chars_of is_utf8 encode xmlns_namespace link_namespace xbrli_namespace xml_namespace iso4217_namespace xbrldi_namespace xlink_namespace xsi_namespace xml fixed token_of is_token
row_one_id = refl

row_no_id : tests (record whole { facts = item a (item (record b { id = Some (codes "2") }) (item z (item s (t false)))) }) ≡ but 0
unfolding ids_fit names_fit texts_fit lists_fit parts_fit roles_fit forms_fit numbers_fit unitless_fit fractions_fit tuples_fit links_fit orders_fit tokens_fit is_ncname is_name_start is_name_char are_allowed is_allowed chars_of is_utf8 encode xmlns_namespace link_namespace xbrli_namespace xml_namespace iso4217_namespace xbrldi_namespace xlink_namespace xsi_namespace xml fixed token_of is_token
row_no_id = refl

row_note_differs : tests (record whole { notes = l ∷ record l { footnotes = record n1 { body = codes "y" } ∷ [] } ∷ [] }) ≡ but 0
unfolding ids_fit names_fit texts_fit lists_fit parts_fit roles_fit forms_fit numbers_fit unitless_fit fractions_fit tuples_fit links_fit orders_fit tokens_fit is_ncname is_name_start is_name_char are_allowed is_allowed chars_of is_utf8 encode xmlns_namespace link_namespace xbrli_namespace xml_namespace iso4217_namespace xbrldi_namespace xlink_namespace xsi_namespace xml fixed token_of is_token
row_note_differs = refl

row_local : tests (record whole { facts = item a (item (record b { name = e (codes "B b") }) (item z (item s (t false)))) }) ≡ but 1
unfolding ids_fit names_fit texts_fit lists_fit parts_fit roles_fit forms_fit numbers_fit unitless_fit fractions_fit tuples_fit links_fit orders_fit tokens_fit is_ncname is_name_start is_name_char are_allowed is_allowed chars_of is_utf8 encode xmlns_namespace link_namespace xbrli_namespace xml_namespace iso4217_namespace xbrldi_namespace xlink_namespace xsi_namespace xml fixed token_of is_token
row_local = refl

row_part : tests (record whole { facts = tuple (record { ns = link_namespace; local = codes "U" }) (Some (codes "t2")) false (item m F.none) (item a (item b (item z (item s (t false))))) }) ≡ but 1
unfolding ids_fit names_fit texts_fit lists_fit parts_fit roles_fit forms_fit numbers_fit unitless_fit fractions_fit tuples_fit links_fit orders_fit tokens_fit is_ncname is_name_start is_name_char are_allowed is_allowed chars_of is_utf8 encode xmlns_namespace link_namespace xbrli_namespace xml_namespace iso4217_namespace xbrldi_namespace xlink_namespace xsi_namespace xml fixed token_of is_token
row_part = refl

row_character : tests (record whole { facts = item a (item (record b { value = value.Plain (1 ∷ []) }) (item z (item s (t false)))) }) ≡ but 2
unfolding ids_fit names_fit texts_fit lists_fit parts_fit roles_fit forms_fit numbers_fit unitless_fit fractions_fit tuples_fit links_fit orders_fit tokens_fit is_ncname is_name_start is_name_char are_allowed is_allowed chars_of is_utf8 encode xmlns_namespace link_namespace xbrli_namespace xml_namespace iso4217_namespace xbrldi_namespace xlink_namespace xsi_namespace xml fixed token_of is_token
row_character = refl

row_bytes : tests (record whole { facts = item a (item (record b { value = value.Plain (200 ∷ []) }) (item z (item s (t false)))) }) ≡ but 2
unfolding ids_fit names_fit texts_fit lists_fit parts_fit roles_fit forms_fit numbers_fit unitless_fit fractions_fit tuples_fit links_fit orders_fit tokens_fit is_ncname is_name_start is_name_char are_allowed is_allowed chars_of is_utf8 encode xmlns_namespace link_namespace xbrli_namespace xml_namespace iso4217_namespace xbrldi_namespace xlink_namespace xsi_namespace xml fixed token_of is_token
row_bytes = refl

row_order : tests (record whole { facts = item b (item a (item z (item s (t false)))) }) ≡ but 3
unfolding ids_fit names_fit texts_fit lists_fit parts_fit roles_fit forms_fit numbers_fit unitless_fit fractions_fit tuples_fit links_fit orders_fit tokens_fit is_ncname is_name_start is_name_char are_allowed is_allowed chars_of is_utf8 encode xmlns_namespace link_namespace xbrli_namespace xml_namespace iso4217_namespace xbrldi_namespace xlink_namespace xsi_namespace xml fixed token_of is_token
row_order = refl

row_repeat : tests (record whole { schemas = codes "a" ∷ codes "a" ∷ [] }) ≡ but 3
unfolding ids_fit names_fit texts_fit lists_fit parts_fit roles_fit forms_fit numbers_fit unitless_fit fractions_fit tuples_fit links_fit orders_fit tokens_fit is_ncname is_name_start is_name_char are_allowed is_allowed chars_of is_utf8 encode xmlns_namespace link_namespace xbrli_namespace xml_namespace iso4217_namespace xbrldi_namespace xlink_namespace xsi_namespace xml fixed token_of is_token
row_repeat = refl

row_unnamed : tests (record whole { contexts = c1 ∷ c2 ∷ record c2 { id = codes "c3" } ∷ [] }) ≡ but 4
unfolding ids_fit names_fit texts_fit lists_fit parts_fit roles_fit forms_fit numbers_fit unitless_fit fractions_fit tuples_fit links_fit orders_fit tokens_fit is_ncname is_name_start is_name_char are_allowed is_allowed chars_of is_utf8 encode xmlns_namespace link_namespace xbrli_namespace xml_namespace iso4217_namespace xbrldi_namespace xlink_namespace xsi_namespace xml fixed token_of is_token
row_unnamed = refl

row_missing : tests (record whole { contexts = c1 ∷ [] }) ≡ but 4
unfolding ids_fit names_fit texts_fit lists_fit parts_fit roles_fit forms_fit numbers_fit unitless_fit fractions_fit tuples_fit links_fit orders_fit tokens_fit is_ncname is_name_start is_name_char are_allowed is_allowed chars_of is_utf8 encode xmlns_namespace link_namespace xbrli_namespace xml_namespace iso4217_namespace xbrldi_namespace xlink_namespace xsi_namespace xml fixed token_of is_token
row_missing = refl

row_unused : tests (record whole { arcroles = record { uri = codes "y"; href = codes "h" } ∷ [] }) ≡ but 5
unfolding ids_fit names_fit texts_fit lists_fit parts_fit roles_fit forms_fit numbers_fit unitless_fit fractions_fit tuples_fit links_fit orders_fit tokens_fit is_ncname is_name_start is_name_char are_allowed is_allowed chars_of is_utf8 encode xmlns_namespace link_namespace xbrli_namespace xml_namespace iso4217_namespace xbrldi_namespace xlink_namespace xsi_namespace xml fixed token_of is_token
row_unused = refl

row_two_addresses : tests (record whole { arcroles = record { uri = codes "w"; href = codes "h" } ∷ record { uri = codes "w"; href = codes "i" } ∷ [] }) ≡ but 5
unfolding ids_fit names_fit texts_fit lists_fit parts_fit roles_fit forms_fit numbers_fit unitless_fit fractions_fit tuples_fit links_fit orders_fit tokens_fit is_ncname is_name_start is_name_char are_allowed is_allowed chars_of is_utf8 encode xmlns_namespace link_namespace xbrli_namespace xml_namespace iso4217_namespace xbrldi_namespace xlink_namespace xsi_namespace xml fixed token_of is_token
row_two_addresses = refl

row_period : tests (record whole { contexts = record c1 { period = period.Duration (pos 5) (pos 5) } ∷ c2 ∷ [] }) ≡ but 6
unfolding ids_fit names_fit texts_fit lists_fit parts_fit roles_fit forms_fit numbers_fit unitless_fit fractions_fit tuples_fit links_fit orders_fit tokens_fit is_ncname is_name_start is_name_char are_allowed is_allowed chars_of is_utf8 encode xmlns_namespace link_namespace xbrli_namespace xml_namespace iso4217_namespace xbrldi_namespace xlink_namespace xsi_namespace xml fixed token_of is_token
row_period = refl

row_no_measure : tests (record whole { units = u1 ∷ record u2 { over = [] } ∷ [] }) ≡ but 6
unfolding ids_fit names_fit texts_fit lists_fit parts_fit roles_fit forms_fit numbers_fit unitless_fit fractions_fit tuples_fit links_fit orders_fit tokens_fit is_ncname is_name_start is_name_char are_allowed is_allowed chars_of is_utf8 encode xmlns_namespace link_namespace xbrli_namespace xml_namespace iso4217_namespace xbrldi_namespace xlink_namespace xsi_namespace xml fixed token_of is_token
row_no_measure = refl

row_inexact : tests (record whole { facts = item (record a { accuracy = Some (accuracy.Decimals (codes "+2")) }) (item b (item z (item s (t false)))) }) ≡ but 7
unfolding ids_fit names_fit texts_fit lists_fit parts_fit roles_fit forms_fit numbers_fit unitless_fit fractions_fit tuples_fit links_fit orders_fit tokens_fit is_ncname is_name_start is_name_char are_allowed is_allowed chars_of is_utf8 encode xmlns_namespace link_namespace xbrli_namespace xml_namespace iso4217_namespace xbrldi_namespace xlink_namespace xsi_namespace xml fixed token_of is_token
row_inexact = refl

row_no_decimal : tests (record whole { facts = item (record a { value = value.Plain (codes "-0") }) (item b (item z (item s (t false)))) }) ≡ but 7
unfolding ids_fit names_fit texts_fit lists_fit parts_fit roles_fit forms_fit numbers_fit unitless_fit fractions_fit tuples_fit links_fit orders_fit tokens_fit is_ncname is_name_start is_name_char are_allowed is_allowed chars_of is_utf8 encode xmlns_namespace link_namespace xbrli_namespace xml_namespace iso4217_namespace xbrldi_namespace xlink_namespace xsi_namespace xml fixed token_of is_token
row_no_decimal = refl

row_unitless : tests (record whole { facts = item a (item b (item z (item (record s { unit = None }) (t false)))) }) ≡ but 8
unfolding ids_fit names_fit texts_fit lists_fit parts_fit roles_fit forms_fit numbers_fit unitless_fit fractions_fit tuples_fit links_fit orders_fit tokens_fit is_ncname is_name_start is_name_char are_allowed is_allowed chars_of is_utf8 encode xmlns_namespace link_namespace xbrli_namespace xml_namespace iso4217_namespace xbrldi_namespace xlink_namespace xsi_namespace xml fixed token_of is_token
row_unitless = refl

row_zero : tests (record whole { facts = item a (item b (item z (item (record s { value = value.Fraction (codes "1") (codes "0") }) (t false)))) }) ≡ but 9
unfolding ids_fit names_fit texts_fit lists_fit parts_fit roles_fit forms_fit numbers_fit unitless_fit fractions_fit tuples_fit links_fit orders_fit tokens_fit is_ncname is_name_start is_name_char are_allowed is_allowed chars_of is_utf8 encode xmlns_namespace link_namespace xbrli_namespace xml_namespace iso4217_namespace xbrldi_namespace xlink_namespace xsi_namespace xml fixed token_of is_token
row_zero = refl

row_nil_tuple : tests (record whole { facts = item a (item b (item z (item s (t true)))) }) ≡ but 10
unfolding ids_fit names_fit texts_fit lists_fit parts_fit roles_fit forms_fit numbers_fit unitless_fit fractions_fit tuples_fit links_fit orders_fit tokens_fit is_ncname is_name_start is_name_char are_allowed is_allowed chars_of is_utf8 encode xmlns_namespace link_namespace xbrli_namespace xml_namespace iso4217_namespace xbrldi_namespace xlink_namespace xsi_namespace xml fixed token_of is_token
row_nil_tuple = refl

row_locator : tests (record whole { notes = record l { locs = codes "f1" ∷ codes "f2" ∷ [] } ∷ [] }) ≡ but 11
unfolding ids_fit names_fit texts_fit lists_fit parts_fit roles_fit forms_fit numbers_fit unitless_fit fractions_fit tuples_fit links_fit orders_fit tokens_fit is_ncname is_name_start is_name_char are_allowed is_allowed chars_of is_utf8 encode xmlns_namespace link_namespace xbrli_namespace xml_namespace iso4217_namespace xbrldi_namespace xlink_namespace xsi_namespace xml fixed token_of is_token
row_locator = refl

-- an arc may go from a footnote to a fact
row_from_note : tests (record whole { notes = record l { arcs = arc ∷ record arc { from_id = codes "n1"; to_id = codes "f1" } ∷ [] } ∷ [] }) ≡ but 14
unfolding ids_fit names_fit texts_fit lists_fit parts_fit roles_fit forms_fit numbers_fit unitless_fit fractions_fit tuples_fit links_fit orders_fit tokens_fit is_ncname is_name_start is_name_char are_allowed is_allowed chars_of is_utf8 encode xmlns_namespace link_namespace xbrli_namespace xml_namespace iso4217_namespace xbrldi_namespace xlink_namespace xsi_namespace xml fixed token_of is_token
row_from_note = refl

row_no_fact : tests (record whole { notes = record l { locs = codes "n1" ∷ []; footnotes = []; arcs = record arc { from_id = codes "n1" } ∷ [] } ∷ []; roles = record { uri = codes "r"; href = codes "h" } ∷ [] }) ≡ but 11
unfolding ids_fit names_fit texts_fit lists_fit parts_fit roles_fit forms_fit numbers_fit unitless_fit fractions_fit tuples_fit links_fit orders_fit tokens_fit is_ncname is_name_start is_name_char are_allowed is_allowed chars_of is_utf8 encode xmlns_namespace link_namespace xbrli_namespace xml_namespace iso4217_namespace xbrldi_namespace xlink_namespace xsi_namespace xml fixed token_of is_token
row_no_fact = refl

row_arc_order : tests (record whole { notes = record l { arcs = record arc { order = codes "01" } ∷ [] } ∷ [] }) ≡ but 12
unfolding ids_fit names_fit texts_fit lists_fit parts_fit roles_fit forms_fit numbers_fit unitless_fit fractions_fit tuples_fit links_fit orders_fit tokens_fit is_ncname is_name_start is_name_char are_allowed is_allowed chars_of is_utf8 encode xmlns_namespace link_namespace xbrli_namespace xml_namespace iso4217_namespace xbrldi_namespace xlink_namespace xsi_namespace xml fixed token_of is_token
row_arc_order = refl

row_scheme : tests (record whole { contexts = record c1 { scheme = codes " s" } ∷ c2 ∷ [] }) ≡ but 13
unfolding ids_fit names_fit texts_fit lists_fit parts_fit roles_fit forms_fit numbers_fit unitless_fit fractions_fit tuples_fit links_fit orders_fit tokens_fit is_ncname is_name_start is_name_char are_allowed is_allowed chars_of is_utf8 encode xmlns_namespace link_namespace xbrli_namespace xml_namespace iso4217_namespace xbrldi_namespace xlink_namespace xsi_namespace xml fixed token_of is_token
row_scheme = refl

row_empty : tests (record whole { linkbases = record { href = []; role = None } ∷ [] }) ≡ but 13
unfolding ids_fit names_fit texts_fit lists_fit parts_fit roles_fit forms_fit numbers_fit unitless_fit fractions_fit tuples_fit links_fit orders_fit tokens_fit is_ncname is_name_start is_name_char are_allowed is_allowed chars_of is_utf8 encode xmlns_namespace link_namespace xbrli_namespace xml_namespace iso4217_namespace xbrldi_namespace xlink_namespace xsi_namespace xml fixed token_of is_token
row_empty = refl

-- The premise of the laws can be met.

whole-body : IsBody (codes "x")
unfolding are_allowed is_allowed chars_of is_utf8 encode
whole-body = record { nodes = chars (codes "x") none; sound = (λ e. cc, refl, tt, tt); is = refl }

whole-tested : is_proper whole ≡ true
unfolding is_proper ids_fit names_fit texts_fit lists_fit parts_fit roles_fit forms_fit numbers_fit unitless_fit fractions_fit tuples_fit links_fit orders_fit tokens_fit is_ncname is_name_start is_name_char are_allowed is_allowed chars_of is_utf8 encode xmlns_namespace link_namespace xbrli_namespace xml_namespace iso4217_namespace xbrldi_namespace xlink_namespace xsi_namespace xml fixed token_of is_token
whole-tested = refl

pub whole-proper : Proper whole
whole-proper = record { tested = whole-tested; bodies = (whole-body, tt) }
