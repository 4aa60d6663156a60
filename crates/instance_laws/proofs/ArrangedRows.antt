-- Small contents in order.
use Rattle.std.proofs.Common.{◌≡◌, refl, ◌∙◌, ap, ℕ, map, List, [], ◌∷◌, codes, None}
use Rattle.std.specs.Ordering.{on}
use Rattle.ix_base.specs.declared.content.Arc.{Arc}
use Rattle.ix_base.specs.declared.content.Context.{Context}
use Rattle.ix_base.specs.declared.content.Fact.TheVariants as fact
use Rattle.ix_base.specs.declared.content.Footnote.{Footnote}
use Rattle.ix_base.specs.declared.content.Item.{Item}
use Rattle.ix_base.specs.declared.content.NoteLink.{NoteLink}
use Rattle.ix_base.specs.declared.content.Period.TheVariants as period
use Rattle.ix_base.specs.declared.content.Value.TheVariants as value
use Rattle.ix_base.specs.Namespaces.{xml_namespace, iso4217_namespace, link_namespace, xbrldi_namespace, xbrli_namespace, xlink_namespace}
use Rattle.ix_base.specs.Namespaces.{xsi_namespace}
use Rattle.ix_base.specs.Once.{in_order}
use Rattle.ix_base.specs.SortedLists.{sorted, text_cmp}
use Rattle.ix_base.specs.WrittenMarkup.{nothing}
use Rattle.ix_base.proofs.StableLemmas.{sorted-map}
use Rattle.instance_lines.specs.Arrangement.{arranged_link, by_line}
use Rattle.instance_lines.specs.Canonical.{Spaces, item_markup, line_cmp, schema_markup}
use Rattle.instance_lines.specs.Elements.{fact_markup}
use Rattle.instance_lines.specs.Prefixes.{fixed, xml}
use Rattle.instance_lines.proofs.MarkupLaws.{fact_markup-Item}

-- A schema that is named twice stands once. The quote behind an address comes after `!`, so the shorter address is the later line.
row_schemas : in_order (by_line schema_markup) (codes "http://e/a" ∷ codes "http://e/a!" ∷ codes "http://e/a" ∷ [])
    ≡ codes "http://e/a!" ∷ codes "http://e/a" ∷ []
unfolding in_order
row_schemas = refl

-- Contexts with one id keep their order.

abbrev context : (id scheme : List ℕ) → Context
context id scheme = record { id = id; scheme = scheme; identifier = codes "1"; segment = []; scenario = []; period = period.Forever }

row_contexts : sorted (on (λ (x : Context). x.id) text_cmp) (context (codes "c") (codes "t") ∷ context (codes "b") (codes "u")
    ∷ context (codes "c") (codes "s") ∷ [])
    ≡ context (codes "b") (codes "u") ∷ context (codes "c") (codes "t") ∷ context (codes "c") (codes "s") ∷ []
unfolding sorted
row_contexts = refl

-- Facts with one line stay twice.

abbrev spaces : Spaces
spaces = codes "http://example.com/e" ∷ []

abbrev text_item : (local text : List ℕ) → Item
text_item local text = record {
  name = record { ns = codes "http://example.com/e"; local = local };
  context = codes "c";
  unit = None;
  accuracy = None;
  id = None;
  value = value.Plain text;
}

abbrev three : List Item
three = text_item (codes "Q") (codes "1") ∷ text_item (codes "P") (codes "2") ∷ text_item (codes "Q") (codes "1") ∷ []

items_are : (xs : List Item)
    → sorted (by_line (fact_markup spaces)) (map (λ (x : Item). fact.Item x) xs)
    ≡ map (λ (x : Item). fact.Item x) (sorted (by_line (λ (x : Item). item_markup spaces x nothing)) xs)
items_are xs =
    sorted-map (by_line (λ (x : Item). item_markup spaces x nothing)) (by_line (fact_markup spaces)) (λ (x : Item). fact.Item x)
    (λ x y. ap (λ m. line_cmp m (fact_markup spaces (fact.Item y))) (fact_markup-Item spaces x)
    ∙ ap (λ m. line_cmp (item_markup spaces x nothing) m) (fact_markup-Item spaces y)) xs

three_are : sorted (by_line (λ (x : Item). item_markup spaces x nothing)) three
    ≡ text_item (codes "P") (codes "2") ∷ text_item (codes "Q") (codes "1") ∷ text_item (codes "Q") (codes "1") ∷ []
unfolding fixed xml xml_namespace iso4217_namespace link_namespace xbrldi_namespace xbrli_namespace xlink_namespace xsi_namespace sorted
three_are = refl

row_facts : sorted (by_line (fact_markup spaces)) (map (λ (x : Item). fact.Item x) three)
    ≡ fact.Item (text_item (codes "P") (codes "2")) ∷ fact.Item (text_item (codes "Q") (codes "1")) ∷ fact.Item (text_item (codes "Q")
    (codes "1")) ∷ []
row_facts = items_are three ∙ ap (map (λ (x : Item). fact.Item x)) three_are

-- A footnote that is named twice stands once, where it stood first among those with its id, and so does an arc.

abbrev note : (id body : List ℕ) → Footnote
note id body = record { id = id; role = codes "r"; title = None; lang = codes "en"; body = body }

abbrev arc : List ℕ → Arc
arc from_id = record { arcrole = codes "a"; from_id = from_id; to_id = codes "n"; order = codes "1" }

abbrev link_of : List (List ℕ) → List Footnote → List Arc → NoteLink
link_of locs footnotes arcs = record { role = codes "r"; locs = locs; footnotes = footnotes; arcs = arcs }

row_link : arranged_link (link_of
    (codes "g" ∷ codes "f" ∷ codes "g" ∷ [])
    (note (codes "n") (codes "two") ∷ note (codes "n") (codes "one") ∷ note (codes "m") [] ∷ note (codes "n") (codes "two") ∷ [])
    (arc (codes "g") ∷ arc (codes "f") ∷ arc (codes "g") ∷ []))
    ≡ link_of (codes "f" ∷ codes "g" ∷ []) (note (codes "m") [] ∷ note (codes "n") (codes "two") ∷ note (codes "n") (codes "one") ∷ [])
    (arc (codes "f") ∷ arc (codes "g") ∷ [])
unfolding arranged_link in_order sorted
row_link = refl
