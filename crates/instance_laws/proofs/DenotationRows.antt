-- Small instances, as data, and what they denote (XBRL 2.1, sections 3 and 4). Offsets are those of the texts.
use Rattle.std.proofs.Common.{◌≡◌, refl, ℕ, true, false, List, [], ◌∷◌, codes, Some, None, pos}
use Rattle.std.specs.Str.{chars as chars_of, is_utf8}
use lib.Utf8.{encode}
use Rattle.jiff_core.specs.Calendar.{day_count, days_of_years, days_of_months}
use Rattle.ix_base.specs.declared.content.Item.{Item}
use Rattle.ix_base.specs.declared.content.NoteLink.{NoteLink}
use Rattle.ix_base.specs.declared.content.OwnName.{OwnName}
use Rattle.ix_base.specs.ContextForm.{context, whom_of, dims_in, period_of}
use Rattle.ix_base.specs.Namespaces.{xhtml_namespace, xml_namespace, link_namespace, xlink_namespace, xbrli_namespace, xbrldi_namespace, xsi_namespace, iso4217_namespace, ix_namespace}
use Rattle.ix_base.specs.Elements.{tree_at}
use Rattle.ix_base.specs.Facts.{item, tuple}
use Rattle.ix_base.specs.NcName.{is_ncname, is_name_start, is_name_char}
use Rattle.ix_base.specs.SortedLists.{sorted}
use Rattle.ix_base.specs.Token.{token_of}
use Rattle.ix_base.specs.Trees.{Valued, Bound, Head, none, chars, elem, Tree}
use Rattle.ix_base.specs.UnitForm.{unit, measures_in}
use Rattle.ix_base.specs.PlainContents.{Said}
use Rattle.instance_out.specs.Denotation.{content_in, parts_in, schema_in, linkbase_in, reference_in, item_in, locator_in, footnote_in, arc_in, notes_in}
use Rattle.ix_base.specs.declared.content.Accuracy.TheVariants as accuracy
use Rattle.ix_base.specs.declared.content.Period.TheVariants as period
use Rattle.ix_base.specs.declared.content.Value.TheVariants as value
use Rattle.ix_base.specs.Facts as F

abbrev scope : List Bound
scope =
    record { prefix = codes "iso4217"; ns = iso4217_namespace }
    ∷ record { prefix = codes "link"; ns = link_namespace }
    ∷ record { prefix = codes "n1"; ns = codes "http://example.com/e" }
    ∷ record { prefix = codes "xbrldi"; ns = xbrldi_namespace }
    ∷ record { prefix = codes "xbrli"; ns = xbrli_namespace }
    ∷ record { prefix = codes "xlink"; ns = xlink_namespace }
    ∷ record { prefix = codes "xml"; ns = xml_namespace }
    ∷ record { prefix = codes "xsi"; ns = xsi_namespace }
    ∷ []

abbrev h : ℕ → List ℕ → List ℕ → List Valued → Head
h at ns local attrs = record { offset = at; name = record { ns = ns; local = local }; attrs = attrs; scope = scope }

abbrev a : List ℕ → List ℕ → List ℕ → Valued
a ns local value = record { name = record { ns = ns; local = local }; value = value }

-- a schema, a context, a unit and an item
abbrev one_item : Tree
one_item = tree_at (h 39 xbrli_namespace (codes "xbrl") ([]))
    (chars (codes "\n")
    (elem (h 368 link_namespace (codes "schemaRef") (a xlink_namespace (codes "type") (codes "simple") ∷ a xlink_namespace (codes "href") (codes "http://example.com/r/e.xsd") ∷ []))
    none
    (chars (codes "\n")
    (elem (h 446 xbrli_namespace (codes "context") (a [] (codes "id") (codes "c1") ∷ []))
    (elem (h 469 xbrli_namespace (codes "entity") ([]))
    (elem (h 483 xbrli_namespace (codes "identifier") (a [] (codes "scheme") (codes "http://example.com/ids") ∷ []))
    (chars (codes "42")
    none)
    none)
    (elem (h 569 xbrli_namespace (codes "period") ([]))
    (elem (h 583 xbrli_namespace (codes "instant") ([]))
    (chars (codes "2023-12-31")
    none)
    none)
    none))
    (chars (codes "\n")
    (elem (h 656 xbrli_namespace (codes "unit") (a [] (codes "id") (codes "u1") ∷ []))
    (elem (h 676 xbrli_namespace (codes "measure") ([]))
    (chars (codes "iso4217:EUR")
    none)
    none)
    (chars (codes "\n")
    (elem (h 732 (codes "http://example.com/e") (codes "Profit") (a [] (codes "contextRef") (codes "c1") ∷ a [] (codes "unitRef") (codes "u1") ∷ a [] (codes "decimals") (codes "-2") ∷ a [] (codes "id") (codes "f1") ∷ []))
    (chars (codes "-1234500")
    none)
    (chars (codes "\n")
    none)))))))))

-- a tuple of three items
abbrev one_tuple : Tree
one_tuple = tree_at (h 39 xbrli_namespace (codes "xbrl") ([]))
    (chars (codes "\n")
    (elem (h 368 (codes "http://example.com/e") (codes "T") ([]))
    (elem (h 374 (codes "http://example.com/e") (codes "M") (a [] (codes "contextRef") (codes "c1") ∷ []))
    (chars (codes "one")
    none)
    (elem (h 406 (codes "http://example.com/e") (codes "M") (a [] (codes "contextRef") (codes "c1") ∷ []))
    (chars (codes "half")
    none)
    (elem (h 439 (codes "http://example.com/e") (codes "M") (a [] (codes "contextRef") (codes "c1") ∷ []))
    (chars (codes "two")
    none)
    none)))
    (chars (codes "\n")
    none)))

-- a locator of a fact, a footnote with this label, whose body is markup, and an arc from the one to this label
abbrev noted : List ℕ → List ℕ → Tree
noted label end = tree_at (h 39 xbrli_namespace (codes "xbrl") ([]))
    (chars (codes "\n")
    (elem (h 368 link_namespace (codes "footnoteLink") (a xlink_namespace (codes "type") (codes "extended") ∷ a xlink_namespace (codes "role") (codes "http://www.xbrl.org/2003/role/link") ∷ []))
    (elem (h 457 link_namespace (codes "loc") (a xlink_namespace (codes "type") (codes "locator") ∷ a xlink_namespace (codes "href") (codes "#f1") ∷ a xlink_namespace (codes "label") (codes "f1") ∷ []))
    none
    (elem (h 523 link_namespace (codes "footnote") (a xlink_namespace (codes "type") (codes "resource") ∷ a xlink_namespace (codes "label") label ∷ a xlink_namespace (codes "role") (codes "http://www.xbrl.org/2003/role/footnote") ∷ a xml_namespace (codes "lang") (codes "en") ∷ []))
    (chars (codes "See ")
    (elem (h 647 (codes "http://www.w3.org/1999/xhtml") (codes "b") ([]))
    (chars (codes "here")
    none)
    (chars (codes ".")
    none)))
    (elem (h 712 link_namespace (codes "footnoteArc") (a xlink_namespace (codes "type") (codes "arc") ∷ a xlink_namespace (codes "arcrole") (codes "http://www.xbrl.org/2003/arcrole/fact-footnote") ∷ a xlink_namespace (codes "from") (codes "f1") ∷ a xlink_namespace (codes "to") end ∷ a [] (codes "order") (codes "1") ∷ []))
    none
    none)))
    (chars (codes "\n")
    none)))

abbrev one_note : Tree
one_note = noted (codes "n1") (codes "n1")

-- an arc to no label
abbrev lost_end : Tree
lost_end = noted (codes "n1") (codes "n2")

-- two ends with one label
abbrev label_twice : Tree
label_twice = noted (codes "f1") (codes "n1")

-- a nil item that holds a text
abbrev nil_with_text : Tree
nil_with_text = tree_at (h 39 xbrli_namespace (codes "xbrl") ([]))
    (chars (codes "\n")
    (elem (h 368 (codes "http://example.com/e") (codes "None") (a [] (codes "contextRef") (codes "c1") ∷ a xsi_namespace (codes "nil") (codes "true") ∷ []))
    (chars (codes "5")
    none)
    (chars (codes "\n")
    none)))

-- numbers, a fraction, a nil item and a nil tuple
abbrev kinds_of_facts : Tree
kinds_of_facts = tree_at (h 39 xbrli_namespace (codes "xbrl") ([]))
    (chars (codes "\n")
    (elem (h 368 (codes "http://example.com/e") (codes "P") (a [] (codes "contextRef") (codes "c1") ∷ a [] (codes "unitRef") (codes "u1") ∷ a [] (codes "decimals") (codes "0") ∷ []))
    (chars (codes "5")
    none)
    (chars (codes "\n")
    (elem (h 425 (codes "http://example.com/e") (codes "Q") (a [] (codes "contextRef") (codes "c1") ∷ a [] (codes "unitRef") (codes "u1") ∷ a [] (codes "decimals") (codes "0") ∷ []))
    (chars (codes "5")
    none)
    (chars (codes "\n")
    (elem (h 482 (codes "http://example.com/e") (codes "Share") (a [] (codes "contextRef") (codes "c1") ∷ a [] (codes "unitRef") (codes "u1") ∷ []))
    (elem (h 521 xbrli_namespace (codes "numerator") ([]))
    (chars (codes "1")
    none)
    (elem (h 557 xbrli_namespace (codes "denominator") ([]))
    (chars (codes "3")
    none)
    none))
    (chars (codes "\n")
    (elem (h 609 (codes "http://example.com/e") (codes "None") (a [] (codes "contextRef") (codes "c1") ∷ a [] (codes "id") (codes "f") ∷ a xsi_namespace (codes "nil") (codes "true") ∷ []))
    none
    (chars (codes "\n")
    (elem (h 658 (codes "http://example.com/e") (codes "T") (a [] (codes "id") (codes "t") ∷ a xsi_namespace (codes "nil") (codes "true") ∷ []))
    none
    (chars (codes "\n")
    none)))))))))))

-- a reference of each kind
abbrev references : Tree
references = tree_at (h 39 xbrli_namespace (codes "xbrl") ([]))
    (chars (codes "\n")
    (elem (h 368 link_namespace (codes "schemaRef") (a xlink_namespace (codes "type") (codes "simple") ∷ a xlink_namespace (codes "href") (codes "a") ∷ []))
    none
    (chars (codes "\n")
    (elem (h 421 link_namespace (codes "linkbaseRef") (a xlink_namespace (codes "type") (codes "simple") ∷ a xlink_namespace (codes "href") (codes "b") ∷ a xlink_namespace (codes "role") (codes "r") ∷ a xlink_namespace (codes "arcrole") (codes "http://www.w3.org/1999/xlink/properties/linkbase") ∷ []))
    none
    (chars (codes "\n")
    (elem (h 556 link_namespace (codes "roleRef") (a [] (codes "roleURI") (codes "u") ∷ a xlink_namespace (codes "type") (codes "simple") ∷ a xlink_namespace (codes "href") (codes "h") ∷ []))
    none
    (chars (codes "\n")
    (elem (h 619 link_namespace (codes "arcroleRef") (a [] (codes "arcroleURI") (codes "v") ∷ a xlink_namespace (codes "type") (codes "simple") ∷ a xlink_namespace (codes "href") (codes "i") ∷ []))
    none
    (chars (codes "\n")
    none)))))))))

-- text beside the children of the root
abbrev text_beside : Tree
text_beside = tree_at (h 39 xbrli_namespace (codes "xbrl") ([]))
    (chars (codes "\nx")
    (elem (h 369 link_namespace (codes "schemaRef") (a xlink_namespace (codes "type") (codes "simple") ∷ a xlink_namespace (codes "href") (codes "a") ∷ []))
    none
    (chars (codes "\n")
    none)))

-- a child that is no part of an instance
abbrev other_child : Tree
other_child = tree_at (h 39 xbrli_namespace (codes "xbrl") ([]))
    (chars (codes "\n")
    (elem (h 368 link_namespace (codes "schema") (a xlink_namespace (codes "type") (codes "simple") ∷ a xlink_namespace (codes "href") (codes "a") ∷ []))
    none
    (chars (codes "\n")
    none)))

-- a reference without xlink:type
abbrev untyped : Tree
untyped = tree_at (h 39 xbrli_namespace (codes "xbrl") ([]))
    (chars (codes "\n")
    (elem (h 368 link_namespace (codes "schemaRef") (a xlink_namespace (codes "href") (codes "a") ∷ []))
    none
    (chars (codes "\n")
    none)))

abbrev e : List ℕ → OwnName
e local = record { ns = codes "http://example.com/e"; local = local }

abbrev empty : Said
empty = record { schemas = []; linkbases = []; roles = []; arcroles = []; contexts = []; units = []; facts = F.none; notes = [] }

one_item-denotes : content_in one_item ≡ Some (record empty {
  schemas = codes "http://example.com/r/e.xsd" ∷ [];
  contexts = record {
    id = codes "c1";
    scheme = codes "http://example.com/ids";
    identifier = codes "42";
    segment = [];
    scenario = [];
    period = period.Instant (pos 63839664000);
  } ∷ [];
  units = record { id = codes "u1"; over = record { ns = iso4217_namespace; local = codes "EUR" } ∷ []; under = [] } ∷ [];
  facts = item (record {
    name = e (codes "Profit");
    context = codes "c1";
    unit = Some (codes "u1");
    accuracy = Some (accuracy.Decimals (codes "-2"));
    id = Some (codes "f1");
    value = value.Plain (codes "-1234500");
  }) F.none;
})
unfolding content_in parts_in schema_in item_in context whom_of dims_in period_of unit measures_in sorted link_namespace xlink_namespace xbrli_namespace xsi_namespace iso4217_namespace token_of is_ncname is_name_start is_name_char chars_of is_utf8 encode day_count days_of_years days_of_months
one_item-denotes = refl

abbrev said : List ℕ → List ℕ → Item
said local text = record { name = e local; context = codes "c1"; unit = None; accuracy = None; id = None; value = value.Plain text }

one_tuple-denotes : content_in one_tuple ≡ Some (record empty {
  facts = tuple (e (codes "T")) None false
      (item (said (codes "M") (codes "one")) (item (said (codes "M") (codes "half")) (item (said (codes "M") (codes "two")) F.none)))
      F.none;
})
unfolding content_in parts_in item_in link_namespace xlink_namespace xbrli_namespace xsi_namespace token_of
one_tuple-denotes = refl

abbrev pub note : NoteLink
note = record {
  role = codes "http://www.xbrl.org/2003/role/link";
  locs = codes "f1" ∷ [];
  footnotes = record {
    id = codes "n1";
    role = codes "http://www.xbrl.org/2003/role/footnote";
    title = None;
    lang = codes "en";
    body = codes "See <b xmlns=\"http://www.w3.org/1999/xhtml\">here</b>.";
  } ∷ [];
  arcs = record { arcrole = codes "http://www.xbrl.org/2003/arcrole/fact-footnote"; from_id = codes "f1"; to_id = codes "n1"; order = codes "1" } ∷ [];
}

one_note-denotes : content_in one_note ≡ Some (record empty { notes = note ∷ [] })
unfolding content_in parts_in notes_in locator_in footnote_in arc_in link_namespace xlink_namespace xbrli_namespace xsi_namespace ix_namespace xml_namespace xhtml_namespace sorted
one_note-denotes = refl

lost_end-none : content_in lost_end ≡ None
unfolding content_in parts_in notes_in locator_in footnote_in arc_in link_namespace xlink_namespace xbrli_namespace xsi_namespace ix_namespace xml_namespace xhtml_namespace sorted
lost_end-none = refl

label_twice-none : content_in label_twice ≡ None
unfolding content_in parts_in notes_in locator_in footnote_in arc_in link_namespace xlink_namespace xbrli_namespace xsi_namespace ix_namespace xml_namespace xhtml_namespace sorted
label_twice-none = refl

abbrev number : List ℕ → Item
number local = record { name = e local; context = codes "c1"; unit = Some (codes "u1"); accuracy = Some (accuracy.Decimals (codes "0")); id = None; value = value.Plain (codes "5") }

kinds_of_facts-denotes : content_in kinds_of_facts ≡ Some (record empty {
  facts = item (number (codes "P")) (item (number (codes "Q"))
      (item (record { name = e (codes "Share"); context = codes "c1"; unit = Some (codes "u1"); accuracy = None; id = None; value = value.Fraction (codes "1") (codes "3") })
      (item (record { name = e (codes "None"); context = codes "c1"; unit = None; accuracy = None; id = Some (codes "f"); value = value.Nil })
      (tuple (e (codes "T")) (Some (codes "t")) true F.none F.none))));
})
unfolding content_in parts_in item_in link_namespace xlink_namespace xbrli_namespace xsi_namespace token_of
kinds_of_facts-denotes = refl

nil_with_text-denotes : content_in nil_with_text ≡ Some (record empty {
  facts = item (record { name = e (codes "None"); context = codes "c1"; unit = None; accuracy = None; id = None; value = value.Nil }) F.none;
})
unfolding content_in parts_in item_in link_namespace xlink_namespace xbrli_namespace xsi_namespace token_of
nil_with_text-denotes = refl

references-denotes : content_in references ≡ Some (record empty {
  schemas = codes "a" ∷ [];
  linkbases = record { href = codes "b"; role = Some (codes "r") } ∷ [];
  roles = record { uri = codes "u"; href = codes "h" } ∷ [];
  arcroles = record { uri = codes "v"; href = codes "i" } ∷ [];
})
unfolding content_in parts_in schema_in linkbase_in reference_in link_namespace xlink_namespace xbrli_namespace
references-denotes = refl

text_beside-none : content_in text_beside ≡ None
unfolding content_in parts_in schema_in link_namespace xlink_namespace xbrli_namespace
text_beside-none = refl

other_child-none : content_in other_child ≡ None
unfolding content_in parts_in link_namespace xlink_namespace xbrli_namespace
other_child-none = refl

untyped-none : content_in untyped ≡ None
unfolding content_in parts_in schema_in link_namespace xlink_namespace xbrli_namespace
untyped-none = refl
