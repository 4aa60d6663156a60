-- Worked pages with relationships, computed.
use Rattle.std.proofs.Common.{◌≡◌, [], ◌∷◌, refl, None}
use Rattle.std.specs.Prelude.{codes}
use Rattle.ix_base.specs.declared.rule.Rule.TheVariants.{L11, L15, L16}
use Rattle.ix_base.specs.Kinds.{ix_rows, reference_rows, role_rows, part_rows}
use Rattle.ix_base.specs.LinkRules.{broken}
use Rattle.ix_base.specs.LocatedElements.{Paged, marked}
use Rattle.ix_base.specs.Namespaces.{xhtml_namespace, ix_namespace, xbrli_namespace, link_namespace, xlink_namespace, xsi_namespace, xml_namespace}
use Rattle.ix_base.specs.Once.{in_order}
use Rattle.ix_base.specs.SortedLists.{sorted}
use Rattle.ix_base.specs.Token.{token_of, is_token}
use Rattle.ix_base.specs.Trees.{none, chars}
use Rattle.footnotes.specs.FootnoteLinks.{canonical_order, notes}
use Rattle.footnotes.proofs.SmallPages.{at, attr, attr_in, fact_footnote, footnote, link, no_bases, page, tag}

-- relationships to a footnote and a fact, across targets, from a footnote, and to a context
abbrev mixed : Paged
mixed = page (codes "a.html") xhtml_namespace 0 (codes "html") [] (tag xhtml_namespace 431 (codes "body") [] (tag ix_namespace 437 (codes "header") [] (tag ix_namespace 448 (codes "references") [] (tag link_namespace 463 (codes "schemaRef") (attr_in xlink_namespace (codes "type") (codes "simple") ∷ attr_in xlink_namespace (codes "href") (codes "e.xsd") ∷ []) none none) (tag ix_namespace 535 (codes "references") (attr (codes "target") (codes "x") ∷ []) (tag link_namespace 561 (codes "schemaRef") (attr_in xlink_namespace (codes "type") (codes "simple") ∷ attr_in xlink_namespace (codes "href") (codes "x.xsd") ∷ []) none none) (tag ix_namespace 633 (codes "resources") [] (tag xbrli_namespace 647 (codes "context") (attr (codes "id") (codes "c1") ∷ []) (tag xbrli_namespace 670 (codes "entity") [] (tag xbrli_namespace 684 (codes "identifier") (attr (codes "scheme") (codes "http://example.com/ids") ∷ []) (chars (codes "42") none) none) (tag xbrli_namespace 770 (codes "period") [] (tag xbrli_namespace 784 (codes "instant") [] (chars (codes "2023-12-31") none) none) none)) (tag xbrli_namespace 856 (codes "unit") (attr (codes "id") (codes "u1") ∷ []) (tag xbrli_namespace 876 (codes "measure") [] (chars (codes "iso4217:EUR") none) none) (tag ix_namespace 931 (codes "relationship") (attr (codes "fromRefs") (codes "f1") ∷ attr (codes "toRefs") (codes "n1 f2") ∷ []) none (tag ix_namespace 978 (codes "relationship") (attr (codes "fromRefs") (codes "f1  f2") ∷ attr (codes "toRefs") (codes " f1 ") ∷ []) none (tag ix_namespace 1028 (codes "relationship") (attr (codes "fromRefs") (codes "f1  n1") ∷ attr (codes "toRefs") (codes "n1") ∷ []) none (tag ix_namespace 1076 (codes "relationship") (attr (codes "fromRefs") (codes "f1") ∷ attr (codes "toRefs") (codes "c1") ∷ []) none none)))))) none))) (tag ix_namespace 1147 (codes "nonNumeric") (attr (codes "name") (codes "e:A") ∷ attr (codes "contextRef") (codes "c1") ∷ attr (codes "id") (codes "f1") ∷ []) (chars (codes "x") none) (tag ix_namespace 1214 (codes "nonNumeric") (attr (codes "name") (codes "e:A") ∷ attr (codes "contextRef") (codes "c1") ∷ attr (codes "id") (codes "f2") ∷ attr (codes "target") (codes "x") ∷ []) (chars (codes "y") none) (tag ix_namespace 1292 (codes "footnote") (attr (codes "id") (codes "n1") ∷ attr_in xml_namespace (codes "lang") (codes "en") ∷ []) (chars (codes "no") none) none)))) none)

rules_are_broken : broken no_bases (marked (mixed ∷ [])) ≡ at 0 1028 L11 ∷ at 0 931 L15 ∷ at 0 1076 L15 ∷ at 0 931 L16 ∷ at 0 978 L16 ∷ []
unfolding ix_rows reference_rows role_rows part_rows token_of is_token ix_namespace xbrli_namespace link_namespace xhtml_namespace xlink_namespace xsi_namespace xml_namespace sorted in_order
rules_are_broken = refl

-- a relationship whose ids nothing has
abbrev loose : Paged
loose = page (codes "a.html") [] 0 (codes "p") [] (tag ix_namespace 50 (codes "header") [] (tag ix_namespace 61 (codes "resources") [] (tag ix_namespace 75 (codes "relationship") (attr (codes "fromRefs") (codes "x") ∷ attr (codes "toRefs") (codes "y") ∷ []) none none) none) none)

ends_are_missing : broken no_bases (marked (loose ∷ [])) ≡ at 0 75 L11 ∷ at 0 75 L15 ∷ []
unfolding ix_rows reference_rows role_rows part_rows token_of is_token ix_namespace xbrli_namespace link_namespace xhtml_namespace xlink_namespace xsi_namespace xml_namespace sorted in_order
ends_are_missing = refl

-- a relationship between two facts, with an arcrole
abbrev related : Paged
related = page (codes "a.html") xhtml_namespace 0 (codes "html") [] (tag xhtml_namespace 431 (codes "body") [] (tag ix_namespace 437 (codes "header") [] (tag ix_namespace 448 (codes "references") [] (tag link_namespace 463 (codes "schemaRef") (attr_in xlink_namespace (codes "type") (codes "simple") ∷ attr_in xlink_namespace (codes "href") (codes "e.xsd") ∷ []) none none) (tag ix_namespace 535 (codes "resources") [] (tag xbrli_namespace 549 (codes "context") (attr (codes "id") (codes "c1") ∷ []) (tag xbrli_namespace 572 (codes "entity") [] (tag xbrli_namespace 586 (codes "identifier") (attr (codes "scheme") (codes "http://example.com/ids") ∷ []) (chars (codes "42") none) none) (tag xbrli_namespace 672 (codes "period") [] (tag xbrli_namespace 686 (codes "instant") [] (chars (codes "2023-12-31") none) none) none)) (tag xbrli_namespace 758 (codes "unit") (attr (codes "id") (codes "u1") ∷ []) (tag xbrli_namespace 778 (codes "measure") [] (chars (codes "iso4217:EUR") none) none) (tag ix_namespace 833 (codes "relationship") (attr (codes "fromRefs") (codes "f1") ∷ attr (codes "toRefs") (codes "f2") ∷ attr (codes "arcrole") (codes "http://example.com/x") ∷ []) none none))) none)) (tag ix_namespace 935 (codes "nonNumeric") (attr (codes "name") (codes "e:A") ∷ attr (codes "contextRef") (codes "c1") ∷ attr (codes "id") (codes "f1") ∷ []) (chars (codes "x") none) (tag ix_namespace 1002 (codes "nonNumeric") (attr (codes "name") (codes "e:A") ∷ attr (codes "contextRef") (codes "c1") ∷ attr (codes "id") (codes "f2") ∷ []) (chars (codes "y") none) none))) none)

an_arc_between_facts : notes no_bases (marked (related ∷ [])) [] ≡ record { role = link; locs = codes "f1" ∷ codes "f2" ∷ []; footnotes = []; arcs = record { arcrole = codes "http://example.com/x"; from_id = codes "f1"; to_id = codes "f2"; order = codes "1" } ∷ [] } ∷ []
unfolding ix_rows reference_rows role_rows part_rows token_of is_token ix_namespace xbrli_namespace link_namespace xhtml_namespace xlink_namespace xsi_namespace xml_namespace sorted in_order
an_arc_between_facts = refl

-- a relationship from facts of two targets to a footnote that goes on elsewhere
abbrev with_footnote : Paged
with_footnote = page (codes "a.html") xhtml_namespace 0 (codes "html") [] (tag xhtml_namespace 431 (codes "body") [] (tag ix_namespace 437 (codes "header") [] (tag ix_namespace 448 (codes "references") [] (tag link_namespace 463 (codes "schemaRef") (attr_in xlink_namespace (codes "type") (codes "simple") ∷ attr_in xlink_namespace (codes "href") (codes "e.xsd") ∷ []) none none) (tag ix_namespace 535 (codes "references") (attr (codes "target") (codes "x") ∷ []) (tag link_namespace 561 (codes "schemaRef") (attr_in xlink_namespace (codes "type") (codes "simple") ∷ attr_in xlink_namespace (codes "href") (codes "x.xsd") ∷ []) none none) (tag ix_namespace 633 (codes "resources") [] (tag xbrli_namespace 647 (codes "context") (attr (codes "id") (codes "c1") ∷ []) (tag xbrli_namespace 670 (codes "entity") [] (tag xbrli_namespace 684 (codes "identifier") (attr (codes "scheme") (codes "http://example.com/ids") ∷ []) (chars (codes "42") none) none) (tag xbrli_namespace 770 (codes "period") [] (tag xbrli_namespace 784 (codes "instant") [] (chars (codes "2023-12-31") none) none) none)) (tag xbrli_namespace 856 (codes "unit") (attr (codes "id") (codes "u1") ∷ []) (tag xbrli_namespace 876 (codes "measure") [] (chars (codes "iso4217:EUR") none) none) (tag ix_namespace 931 (codes "relationship") (attr (codes "fromRefs") (codes "f1 f2") ∷ attr (codes "toRefs") (codes "n1") ∷ []) none none))) none))) (tag ix_namespace 1005 (codes "nonNumeric") (attr (codes "name") (codes "e:A") ∷ attr (codes "contextRef") (codes "c1") ∷ attr (codes "id") (codes "f1") ∷ []) (chars (codes "x") none) (tag ix_namespace 1072 (codes "nonNumeric") (attr (codes "name") (codes "e:A") ∷ attr (codes "contextRef") (codes "c1") ∷ attr (codes "id") (codes "f2") ∷ attr (codes "target") (codes "x") ∷ []) (chars (codes "y") none) (tag ix_namespace 1150 (codes "footnote") (attr (codes "id") (codes "n1") ∷ attr_in xml_namespace (codes "lang") (codes "en") ∷ attr (codes "continuedAt") (codes "k") ∷ []) (chars (codes "See ") (tag xhtml_namespace 1205 (codes "b") [] (chars (codes "here") none) none)) (tag ix_namespace 1230 (codes "continuation") (attr (codes "id") (codes "k") ∷ []) (chars (codes ".") none) (tag ix_namespace 1273 (codes "footnote") (attr (codes "id") (codes "n2") ∷ attr_in xml_namespace (codes "lang") (codes "en") ∷ []) (chars (codes "no") none) none)))))) none)

a_footnote_goes_on : notes no_bases (marked (with_footnote ∷ [])) [] ≡ record { role = link; locs = codes "f1" ∷ []; footnotes = record { id = codes "n1"; role = footnote; title = None; lang = codes "en"; body = codes "See <b xmlns=\"http://www.w3.org/1999/xhtml\">here</b>." } ∷ []; arcs = record { arcrole = fact_footnote; from_id = codes "f1"; to_id = codes "n1"; order = codes "1" } ∷ [] } ∷ []
unfolding ix_rows reference_rows role_rows part_rows token_of is_token ix_namespace xbrli_namespace link_namespace xhtml_namespace xlink_namespace xsi_namespace xml_namespace sorted in_order
a_footnote_goes_on = refl

the_same_in_another_target : notes no_bases (marked (with_footnote ∷ [])) (codes "x") ≡ record { role = link; locs = codes "f2" ∷ []; footnotes = record { id = codes "n1"; role = footnote; title = None; lang = codes "en"; body = codes "See <b xmlns=\"http://www.w3.org/1999/xhtml\">here</b>." } ∷ []; arcs = record { arcrole = fact_footnote; from_id = codes "f2"; to_id = codes "n1"; order = codes "1" } ∷ [] } ∷ []
unfolding ix_rows reference_rows role_rows part_rows token_of is_token ix_namespace xbrli_namespace link_namespace xhtml_namespace xlink_namespace xsi_namespace xml_namespace sorted in_order
the_same_in_another_target = refl

no_rule_is_broken : broken no_bases (marked (with_footnote ∷ [])) ≡ []
unfolding ix_rows reference_rows role_rows part_rows token_of is_token ix_namespace xbrli_namespace link_namespace xhtml_namespace xlink_namespace xsi_namespace xml_namespace sorted in_order
no_rule_is_broken = refl

-- orders in their canonical form
with_sign : canonical_order (codes "+01.50") ≡ codes "1.5"
with_sign = refl

negative : canonical_order (codes "-.50") ≡ codes "-0.5"
negative = refl

zero : canonical_order (codes "-0.0") ≡ codes "0"
zero = refl

no_decimal : canonical_order (codes "first") ≡ codes "first"
no_decimal = refl
