-- The order of lists, kind by kind.
use Rattle.std.proofs.Common.{◌≡◌, ◌∙◌, Bool, true, false, ◌&&◌, map, sym, refl}
use Rattle.std.specs.List.{list_all}
use Rattle.std.specs.Ordering.{on}
use Rattle.ix_base.specs.declared.content.Context.{Context}
use Rattle.ix_base.specs.declared.content.Footnote.{Footnote}
use Rattle.ix_base.specs.declared.content.NoteLink.{NoteLink}
use Rattle.ix_base.specs.declared.content.Unit.{Unit as UnitContent}
use Rattle.ix_base.specs.PlainContents.{Said}
use Rattle.ix_base.specs.SortedLists.{text_cmp}
use Rattle.proper_content.specs.InOrder.{notes_in_order, parts_in_order, references_in_order}
use Rattle.proper_content.proofs.ListLaws.{map_same, rises_map, strictly_map}
use Rattle.instance_lines.specs.Canonical.{arc_line_cmp, arcrole_markup, fact_markups, line_cmp, linkbase_markup, role_markup, schema_markup}
use Rattle.instance_lines.specs.Holdings.{said_spaces}
use Rattle.instance_lines.specs.Lists.{rises, strictly}
use Rattle.instance_out.specs.Proper.{link_in_order, lists_fit}

grouped : (a b c d e f g h i : Bool)
    → ((((((((a && b) && c) && d) && e) && f) && g) && h) && i) ≡ ((a && (b && (c && d))) && ((e && (f && g)) && (h && i)))
grouped true true true true true true true h i = refl
grouped true true true true true true false h i = refl
grouped true true true true true false g h i = refl
grouped true true true true false f g h i = refl
grouped true true true false e f g h i = refl
grouped true true false d e f g h i = refl
grouped true false c d e f g h i = refl
grouped false b c d e f g h i = refl

pub lists_told : (c : Said) → lists_fit c ≡ (references_in_order c && (parts_in_order c && notes_in_order c))
unfolding lists_fit
lists_told c =
    let A = strictly line_cmp (map schema_markup c.schemas) in
    let B = strictly line_cmp (map linkbase_markup c.linkbases) in
    let C = strictly line_cmp (map role_markup c.roles) in
    let D = strictly line_cmp (map arcrole_markup c.arcroles) in
    let G = rises line_cmp (fact_markups (said_spaces c) c.facts) in
    let I = list_all link_in_order c.notes in
    grouped A B C D (rises (on (λ (x : Context). x.id) text_cmp) c.contexts) (rises (on (λ (u : UnitContent). u.id) text_cmp) c.units) G
    (rises (on (λ (l : NoteLink). l.role) text_cmp) c.notes) I
    ∙ sym (λ i. (A && (B && (C && D)))
    && ((rises_map (λ (x : Context). x.id) text_cmp c.contexts i && (rises_map (λ (u : UnitContent). u.id) text_cmp c.units i && G))
    && (rises_map (λ (l : NoteLink). l.role) text_cmp c.notes i && I)))

and-assoc : (a b c : Bool) → ((a && b) && c) ≡ (a && (b && c))
and-assoc true b c = refl
and-assoc false b c = refl

pub link_told : (l : NoteLink) → link_in_order l
    ≡ (strictly text_cmp (map (λ t. t) l.locs) && (strictly text_cmp (map (λ f. f.id) l.footnotes) && strictly arc_line_cmp l.arcs))
link_told l =
    and-assoc (strictly text_cmp l.locs) (strictly (on (λ (f : Footnote). f.id) text_cmp) l.footnotes) (strictly arc_line_cmp l.arcs)
    ∙ sym (λ i. strictly text_cmp (map_same l.locs i) && (strictly_map (λ (f : Footnote). f.id) text_cmp l.footnotes i && strictly arc_line_cmp l.arcs))
