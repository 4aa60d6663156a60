-- The spans of a worked page.
use Rattle.std.proofs.Common.{◌≡◌, ℕ, List, [], ◌∷◌, map, refl, codes}
use lib.Utf8.{encode}
use Rattle.page_text.specs.Characters.{scan_from, unified}
use Rattle.ix_base.specs.NcName.{is_ncname, is_name_start, is_name_char, is_allowed}
use Rattle.ix_base.specs.Namespaces.{ix_namespace, xml_namespace, xmlns_namespace}
use Rattle.std.specs.Str.{chars as chars_of, is_utf8}
use Rattle.ix_base.specs.Trees.{Head, none, chars, elem}
use Rattle.page_constructs.specs.Constructs.{size_by, kind_of, cut_from}
use Rattle.page_constructs.specs.Meanings.{attributes_in, meant_by}
use Rattle.page_constructs.specs.Values.{meant_in, referred}
use Rattle.fact_trace.specs.Spans.{element_spans, span_of}
use Rattle.fact_trace.specs.declared.span.Span.{Span}

abbrev page : List ℕ
page = codes "<p xmlns:ix=\"http://www.xbrl.org/2013/inlineXBRL\" xmlns:e=\"http://example.com/e\"><ix:nonNumeric name=\"e:N\" contextRef=\"c1\" continuedAt=\"k\">A&amp;B<!--c-->C<ix:exclude>x</ix:exclude></ix:nonNumeric><ix:continuation id=\"k\">D</ix:continuation></p>"

abbrev head_at : ℕ → List ℕ → Head
head_at at local = record { offset = at; name = record { ns = ix_namespace; local = local }; attrs = []; scope = [] }

abbrev span : ℕ → ℕ → Span
span from to = record { page = codes "b.html"; start = from; end = to }

row0 : map (span_of (codes "b.html")) (element_spans page (record { head = head_at 81 (codes "nonNumeric"); children = chars (codes "A&BC") (elem (head_at 155 (codes "exclude")) (chars (codes "x") none) none) }))
    ≡ span 139 140 ∷ span 140 145 ∷ span 145 146 ∷ span 154 155 ∷ []
unfolding is_utf8 scan_from unified is_ncname is_name_start is_name_char is_allowed chars_of size_by kind_of cut_from attributes_in meant_by meant_in referred encode ix_namespace xml_namespace xmlns_namespace
row0 = refl

row1 : map (span_of (codes "b.html")) (element_spans page (record { head = head_at 197 (codes "continuation"); children = chars (codes "D") none })) ≡ span 221 222 ∷ []
unfolding is_utf8 scan_from unified is_ncname is_name_start is_name_char is_allowed chars_of size_by kind_of cut_from attributes_in meant_by meant_in referred encode ix_namespace xml_namespace xmlns_namespace
row1 = refl
