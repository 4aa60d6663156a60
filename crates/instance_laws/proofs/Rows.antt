-- Canonical texts of small contents.
use Rattle.std.proofs.Common.{◌≡◌, refl, ap, sym, ℕ, map, false, List, [], ◌∷◌, codes, Some, None, pos, arith}
use Rattle.jiff.proofs.SpanFacts.{signed_arith}
use Rattle.jiff_core.specs.Calendar.{day_count, days_of_years, days_of_months}
use Rattle.ix_base.specs.declared.content.Accuracy.TheVariants as accuracy
use Rattle.ix_base.specs.declared.content.Content.{Content}
use Rattle.ix_base.specs.declared.content.Context.{Context}
use Rattle.ix_base.specs.declared.content.Fact.TheVariants as fact
use Rattle.ix_base.specs.declared.content.Item.{Item}
use Rattle.ix_base.specs.declared.content.Member.TheVariants as member
use Rattle.ix_base.specs.declared.content.NoteLink.{NoteLink}
use Rattle.ix_base.specs.declared.content.OwnName.{OwnName}
use Rattle.ix_base.specs.declared.content.Period.{Period}
use Rattle.ix_base.specs.declared.content.Period.TheVariants as period
use Rattle.ix_base.specs.declared.content.Value.TheVariants as value
use Rattle.ix_base.specs.Days.{IsDay, day_at}
use Rattle.ix_base.specs.Facts.{Facts, none, item, tuple, facts_of}
use Rattle.ix_base.proofs.FactLaws.{before-Item}
use Rattle.ix_base.specs.Namespaces.{xml_namespace, iso4217_namespace, link_namespace, xbrldi_namespace, xbrli_namespace, xlink_namespace, xsi_namespace}
use Rattle.ix_base.specs.Once.{in_order}
use Rattle.ix_base.specs.SortedLists.{sorted}
use Rattle.instance_lines.specs.Prefixes.{fixed, xml}
use Rattle.instance_lines.proofs.Calendar.{day_at-days}
use Rattle.instance_lines.proofs.DayLaws.{is_civil}
use Rattle.instance_laws.proofs.DenotationRows.{note}
use Rattle.instance_lines.specs.Canonical.{Spaces, line, line_cmp, root_line, context_markup, unit_markup, fact_markups, link_markup, content_spaces, children, lines_with, canon_lines}

abbrev e : List ℕ → OwnName
e local = record { ns = codes "http://example.com/e"; local = local }

abbrev spaces : Spaces
spaces = codes "http://example.com/e" ∷ []

abbrev context_at : Period → Context
context_at when = record {
  id = codes "c1";
  scheme = codes "http://example.com/ids";
  identifier = codes "42";
  segment = [];
  scenario = [];
  period = when;
}

abbrev IsDayAt : ℕ → ℕ → ℕ → ℕ → Type 0
IsDayAt n year month day = ((day_at n).year ≡ year) × ((day_at n).month ≡ month) × ((day_at n).day ≡ day)

day_2023 : IsDayAt 738884 2023 12 31
unfolding day_count days_of_years days_of_months
day_2023 =
    let real : IsDay 2023 12 31 = (omega arith, omega arith, (omega (arith, signed_arith), omega (arith, signed_arith), omega (arith, signed_arith))) in
    let at = day_at-days 2023 12 31 738884 (is_civil 2023 12 31 real) refl in
    (omega (arith, signed_arith, at.0), sym at.1, sym at.2)

-- One fact of a number, at an instant at midnight.

abbrev profit : Item
profit = record {
  name = e (codes "Profit");
  context = codes "c1";
  unit = Some (codes "u1");
  accuracy = Some (accuracy.Decimals (codes "-2"));
  id = Some (codes "f1");
  value = value.Plain (codes "-1234500");
}

abbrev one_number : Content
one_number = record {
  schemas = codes "http://example.com/r/e.xsd" ∷ codes "http://example.com/r/e.xsd" ∷ [];
  linkbases = [];
  roles = [];
  arcroles = [];
  contexts = context_at (period.Instant (pos 63839664000)) ∷ [];
  units = record { id = codes "u1"; over = record { ns = codes "http://www.xbrl.org/2003/iso4217"; local = codes "EUR" } ∷ []; under = [] } ∷ [];
  facts = fact.Item profit ∷ [];
  notes = [];
}

seen : facts_of one_number.facts ≡ item profit none
seen = before-Item profit none

one_number-with : lines_with one_number (item profit none) ≡
    codes "<?xml version=\"1.0\" encoding=\"UTF-8\"?>\n"
    ∷ codes "<xbrli:xbrl xmlns:iso4217=\"http://www.xbrl.org/2003/iso4217\" xmlns:link=\"http://www.xbrl.org/2003/linkbase\" xmlns:xbrldi=\"http://xbrl.org/2006/xbrldi\" xmlns:xbrli=\"http://www.xbrl.org/2003/instance\" xmlns:xlink=\"http://www.w3.org/1999/xlink\" xmlns:xsi=\"http://www.w3.org/2001/XMLSchema-instance\" xmlns:n1=\"http://example.com/e\">\n"
    ∷ codes "<link:schemaRef xlink:type=\"simple\" xlink:href=\"http://example.com/r/e.xsd\"/>\n"
    ∷ codes "<xbrli:context id=\"c1\"><xbrli:entity><xbrli:identifier scheme=\"http://example.com/ids\">42</xbrli:identifier></xbrli:entity><xbrli:period><xbrli:instant>2023-12-31</xbrli:instant></xbrli:period></xbrli:context>\n"
    ∷ codes "<xbrli:unit id=\"u1\"><xbrli:measure>iso4217:EUR</xbrli:measure></xbrli:unit>\n"
    ∷ codes "<n1:Profit contextRef=\"c1\" unitRef=\"u1\" decimals=\"-2\" id=\"f1\">-1234500</n1:Profit>\n"
    ∷ codes "</xbrli:xbrl>\n"
    ∷ []
unfolding lines_with children content_spaces root_line fixed xml xml_namespace iso4217_namespace link_namespace xbrldi_namespace xbrli_namespace xlink_namespace xsi_namespace in_order sorted
one_number-with = rw (day_2023.0, day_2023.1, day_2023.2) refl

one_number-lines : canon_lines one_number ≡ lines_with one_number (item profit none)
one_number-lines = ap (lines_with one_number) seen

-- Dimensions, and days alone.

start_2023 : IsDayAt 738520 2023 1 1
unfolding day_count days_of_years days_of_months
start_2023 =
    let real : IsDay 2023 1 1 = (omega arith, omega arith, (omega (arith, signed_arith), omega (arith, signed_arith), omega (arith, signed_arith))) in
    let at = day_at-days 2023 1 1 738520 (is_civil 2023 1 1 real) refl in
    (omega (arith, signed_arith, at.0), sym at.1, sym at.2)

abbrev c2 : Context
c2 = record {
  id = codes "c2";
  scheme = codes "s";
  identifier = codes "1";
  segment =
      record { dimension = e (codes "B"); member = member.Typed (e (codes "v")) (codes "x ") }
      ∷ record { dimension = e (codes "D"); member = member.Explicit (e (codes "M")) }
      ∷ [];
  scenario = [];
  period = period.Duration (pos 63808128000) (pos 63839664000);
}

row_dimensions : line (context_markup spaces c2) ≡ codes "<xbrli:context id=\"c2\"><xbrli:entity><xbrli:identifier scheme=\"s\">1</xbrli:identifier><xbrli:segment><xbrldi:typedMember dimension=\"n1:B\"><n1:v>x </n1:v></xbrldi:typedMember><xbrldi:explicitMember dimension=\"n1:D\">n1:M</xbrldi:explicitMember></xbrli:segment></xbrli:entity><xbrli:period><xbrli:startDate>2023-01-01</xbrli:startDate><xbrli:endDate>2023-12-31</xbrli:endDate></xbrli:period></xbrli:context>\n"
unfolding fixed xml xml_namespace iso4217_namespace link_namespace xbrldi_namespace xbrli_namespace xlink_namespace xsi_namespace
row_dimensions = rw (start_2023.0, start_2023.1, start_2023.2, day_2023.0, day_2023.1, day_2023.2) refl

-- Tuples, fractions, and the order of facts.

abbrev text_fact : List ℕ → List ℕ → Item
text_fact local text = record { name = e local; context = codes "c1"; unit = None; accuracy = None; id = None; value = value.Plain text }

abbrev three_members : Facts
three_members =
    tuple (e (codes "T")) None false
    (item (text_fact (codes "M") (codes "one")) (item (text_fact (codes "M") (codes "half")) (item (text_fact (codes "M") (codes "two")) none)))
    none

row_tuple : map line (fact_markups spaces three_members) ≡ codes "<n1:T><n1:M contextRef=\"c1\">one</n1:M><n1:M contextRef=\"c1\">half</n1:M><n1:M contextRef=\"c1\">two</n1:M></n1:T>\n" ∷ []
unfolding fixed xml xml_namespace iso4217_namespace link_namespace xbrldi_namespace xbrli_namespace xlink_namespace xsi_namespace
row_tuple = refl

abbrev five_facts : Facts
five_facts =
    item (record profit { name = e (codes "Q"); accuracy = Some (accuracy.Decimals (codes "0")); id = None; value = value.Plain (codes "5") })
    (item (record profit { name = e (codes "P"); accuracy = Some (accuracy.Decimals (codes "0")); id = None; value = value.Plain (codes "5") })
    (item (record profit { name = e (codes "Share"); accuracy = None; id = None; value = value.Fraction (codes "1") (codes "3") })
    (item (record profit { name = e (codes "P"); accuracy = Some (accuracy.Decimals (codes "0")); id = None; value = value.Plain (codes "5") })
    (item (record profit { name = e (codes "Nil"); accuracy = None; id = Some (codes "f"); value = value.Nil })
    none))))

row_facts : map line (sorted line_cmp (fact_markups spaces five_facts)) ≡
    codes "<n1:Nil contextRef=\"c1\" unitRef=\"u1\" id=\"f\" xsi:nil=\"true\"/>\n"
    ∷ codes "<n1:P contextRef=\"c1\" unitRef=\"u1\" decimals=\"0\">5</n1:P>\n"
    ∷ codes "<n1:P contextRef=\"c1\" unitRef=\"u1\" decimals=\"0\">5</n1:P>\n"
    ∷ codes "<n1:Q contextRef=\"c1\" unitRef=\"u1\" decimals=\"0\">5</n1:Q>\n"
    ∷ codes "<n1:Share contextRef=\"c1\" unitRef=\"u1\"><xbrli:numerator>1</xbrli:numerator><xbrli:denominator>3</xbrli:denominator></n1:Share>\n"
    ∷ []
unfolding fixed xml xml_namespace iso4217_namespace link_namespace xbrldi_namespace xbrli_namespace xlink_namespace xsi_namespace sorted
row_facts = refl

-- Footnotes.

abbrev one_note : NoteLink
one_note = record note { locs = codes "f1" ∷ codes "f1" ∷ [] }

row_footnote : line (link_markup one_note) ≡ codes "<link:footnoteLink xlink:type=\"extended\" xlink:role=\"http://www.xbrl.org/2003/role/link\"><link:loc xlink:type=\"locator\" xlink:href=\"#f1\" xlink:label=\"f1\"/><link:footnote xlink:type=\"resource\" xlink:label=\"n1\" xlink:role=\"http://www.xbrl.org/2003/role/footnote\" xml:lang=\"en\">See <b xmlns=\"http://www.w3.org/1999/xhtml\">here</b>.</link:footnote><link:footnoteArc xlink:type=\"arc\" xlink:arcrole=\"http://www.xbrl.org/2003/arcrole/fact-footnote\" xlink:from=\"f1\" xlink:to=\"n1\" order=\"1\"/></link:footnoteLink>\n"
unfolding in_order sorted
row_footnote = refl

-- Units, and prefixes by namespace.

abbrev two_spaces : Spaces
two_spaces = codes "http://example.com/e" ∷ codes "http://other/" ∷ []

abbrev usd : List ℕ → OwnName
usd ns = record { ns = ns; local = codes "USD" }

row_units :
    (line (unit_markup two_spaces (record { id = codes "u1"; over = usd (codes "http://other/") ∷ []; under = [] })) ≡ codes "<xbrli:unit id=\"u1\"><xbrli:measure>n2:USD</xbrli:measure></xbrli:unit>\n")
    × (line (unit_markup two_spaces (record { id = codes "u2"; over = usd (codes "http://www.xbrl.org/2003/iso4217") ∷ []; under = usd [] ∷ [] })) ≡ codes "<xbrli:unit id=\"u2\"><xbrli:divide><xbrli:unitNumerator><xbrli:measure>iso4217:USD</xbrli:measure></xbrli:unitNumerator><xbrli:unitDenominator><xbrli:measure>USD</xbrli:measure></xbrli:unitDenominator></xbrli:divide></xbrli:unit>\n")
unfolding fixed xml xml_namespace iso4217_namespace link_namespace xbrldi_namespace xbrli_namespace xlink_namespace xsi_namespace
row_units = (refl, refl)
