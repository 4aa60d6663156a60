-- In a content lists are in order, and what is to stand once stands once.
use Rattle.std.proofs.Common.{◌≡◌, ◌∙◌, ap, subst, sym, ℕ, true, List, map}
use Rattle.std.specs.Ordering.{on}
use Rattle.std.specs.Cmp.{IsTotalOrder}
use Rattle.std.proofs.lemmas.Bool.{and_from}
use Rattle.std.proofs.lemmas.Cmp.{nat_list_cmp_total, on_total}
use Rattle.ix_base.specs.declared.content.Content.{Content}
use Rattle.ix_base.specs.declared.content.Context.{Context}
use Rattle.ix_base.specs.declared.content.Fact.{Fact}
use Rattle.ix_base.specs.declared.content.NoteLink.{NoteLink}
use Rattle.ix_base.specs.declared.content.Unit.{Unit as UnitContent}
use Rattle.ix_base.specs.Facts.{facts_of}
use Rattle.ix_base.specs.LocatedElements.{Located}
use Rattle.ix_base.specs.Once.{in_order}
use Rattle.ix_base.specs.SortedLists.{sorted, text_cmp}
use Rattle.ix_base.specs.WrittenMarkup.{Markup}
use Rattle.ix_base.proofs.OnceLemmas.{in_order-sorted}
use Rattle.instance_lines.specs.Arrangement.{arranged, arranged_link, by_line}
use Rattle.instance_lines.specs.Canonical.{Spaces, arc_line_cmp, arcrole_markup, content_spaces, fact_markups, line, line_cmp, linkbase_markup, role_markup, schema_markup}
use Rattle.instance_lines.specs.Elements.{arc_text, fact_markup}
use Rattle.instance_lines.specs.Holdings.{said_spaces}
use Rattle.instance_lines.specs.Lists.{rises, strictly}
use Rattle.instance_out.specs.Proper.{link_in_order, lists_fit}
use Rattle.ix_base.specs.PlainContents.{said_of}
use Rattle.instance_lines.proofs.ArrangedLaws.{sorted-rises, spaces-arranged}
use Rattle.instance_lines.proofs.MarkupLaws.{fact_markups-are}
use Rattle.instance_lines.proofs.Sorting.{in_order-map, sorted-map}
use Rattle.targets.specs.ValidSets.{IsClean}
use Rattle.target_contents.specs.Contents.{IsContent, IsGathered}
use Rattle.target_contents.specs.PageSet.{PageSet, base_at, elements}
use Rattle.targets.proofs.ArcLaws.{IsLinkOf, arranged-arcs, arranged-locs, by_note, from-links, link-notes, link-strict, arcs_of}
use Rattle.targets.proofs.HasLaws.{rises-is, strictly-is}
use Rattle.target_contents.proofs.MemberLaws.{all-pass}

line_total : IsTotalOrder line_cmp
line_total = on_total line nat_list_cmp_total

-- references in the order of their lines
lines-strict : {X : Type 0} (f : X → Markup) (xs : List X) → strictly line_cmp (map f (in_order (by_line f) xs)) ≡ true
lines-strict f xs =
    ap (strictly line_cmp) (sym (in_order-map f line_cmp xs))
    ∙ strictly-is line_cmp (in_order line_cmp (map f xs)) (in_order-sorted line_total (map f xs))

-- what was sorted rises
sorted-up : {X : Type 0} (f : X → List ℕ) (xs : List X) → rises (on f text_cmp) (sorted (on f text_cmp) xs) ≡ true
sorted-up f xs =
    let o = on_total f nat_list_cmp_total in
    rises-is (on f text_cmp) o (sorted (on f text_cmp) xs) (sorted-rises o xs)

facts-up : (spaces : Spaces) (fs : List Fact)
    → rises line_cmp (fact_markups spaces (facts_of (sorted (by_line (fact_markup spaces)) fs))) ≡ true
facts-up spaces fs =
    let f = fact_markup spaces in
    ap (rises line_cmp) (fact_markups-are spaces (sorted (by_line f) fs) ∙ sym (sorted-map f line_cmp fs))
    ∙ rises-is line_cmp line_total (sorted line_cmp (map f fs)) (sorted-rises line_total (map f fs))

all-facts-up : (c : Content) → rises line_cmp (fact_markups (said_spaces (said_of (arranged c))) (facts_of (arranged c).facts)) ≡ true
unfolding arranged content_spaces
all-facts-up c =
    ap (λ s. rises line_cmp (fact_markups s (facts_of (arranged c).facts))) (spaces-arranged c)
    ∙ facts-up (content_spaces c (facts_of c.facts)) c.facts

links-up : (ls : List NoteLink) → rises (on (λ (l : NoteLink). l.role) text_cmp) (map arranged_link (sorted (on (λ (l : NoteLink). l.role) text_cmp) ls)) ≡ true
unfolding arranged_link
links-up ls =
    let R = on (λ (l : NoteLink). l.role) text_cmp in
    ap (rises R) (sym (sorted-map arranged_link R ls)) ∙ sorted-up (λ (l : NoteLink). l.role) (map arranged_link ls)

-- within a link
link-up : (bases : Located → List ℕ) (es : List Located) (target : List ℕ) (l : NoteLink) → IsLinkOf bases es target l → link_in_order (arranged_link l) ≡ true
link-up bases es target l k =
    let locs = ap (strictly text_cmp) (arranged-locs l) ∙ strictly-is text_cmp (in_order text_cmp l.locs) (in_order-sorted nat_list_cmp_total l.locs) in
    let notes = ap (strictly by_note) (link-notes bases es target l k ∙ ap (λ (m : NoteLink). m.footnotes) k.is)
    ∙ strictly-is by_note _ (link-strict bases es k.role (arcs_of es target k.role)) in
    let arcs = ap (strictly arc_line_cmp) (arranged-arcs l) ∙ strictly-is arc_line_cmp (in_order arc_line_cmp l.arcs) (in_order-sorted (on_total arc_text nat_list_cmp_total) l.arcs) in
    and_from _ (strictly arc_line_cmp (arranged_link l).arcs)
    (and_from (strictly text_cmp (arranged_link l).locs) (strictly by_note (arranged_link l).footnotes) locs notes) arcs

fits-of : (bases : Located → List ℕ) (es : List Located) (target : List ℕ) (c : Content) → IsGathered bases es target c → lists_fit (said_of (arranged c)) ≡ true
unfolding lists_fit arranged
fits-of bases es target c g =
    and_from _ _ (and_from _ _ (and_from _ _ (and_from _ _ (and_from _ _ (and_from _ _ (and_from _ _ (and_from _ _
    (lines-strict schema_markup c.schemas)
    (lines-strict linkbase_markup c.linkbases))
    (lines-strict role_markup c.roles))
    (lines-strict arcrole_markup c.arcroles))
    (sorted-up (λ (x : Context). x.id) c.contexts))
    (sorted-up (λ (u : UnitContent). u.id) c.units))
    (all-facts-up c))
    (links-up c.notes))
    (all-pass link_in_order (arranged c).notes
    (λ l h. let m = from-links bases es target c g l h in
    subst (λ (k : NoteLink). link_in_order k ≡ true) m.2 (link-up bases es target m.0 m.1)))

pub lists-fit : (s : PageSet) → IsClean s → (target : List ℕ) (c : Content) → IsContent (base_at s) (elements s) target c
    → lists_fit (said_of c) ≡ true
lists-fit s clean target c content =
    subst (λ x. lists_fit (said_of x) ≡ true) (sym content.2) (fits-of (base_at s) (elements s) target content.0 content.1)
