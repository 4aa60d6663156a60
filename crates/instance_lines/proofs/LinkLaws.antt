-- The lines of footnote links.
use Rattle.std.proofs.Common.{◌≡◌, ◌∙◌, ap, sym, ℕ, List, [], ◌∷◌, ◌++◌, map, append_assoc, codes, refl}
use Rattle.std.specs.List.{concat}
use Rattle.std.specs.Ordering.{on}
use Rattle.ix_base.specs.Once.{in_order}
use Rattle.ix_base.specs.SortedLists.{sorted, text_cmp}
use Rattle.ix_base.specs.WrittenMarkup.{Markup, nothing, start_text, close_text, written}
use Rattle.ix_base.specs.declared.content.Footnote.{Footnote}
use Rattle.ix_base.specs.declared.content.NoteLink.{NoteLink}
use Rattle.instance_lines.specs.Canonical.{arc_line_cmp, arc_markup, attr, attr_if, each_markup, footnote_markup, line, link_markup, locator_markup, type_attr}
use Rattle.instance_lines.specs.Elements.{arc_text, footnote_text, locator_text}
use Rattle.instance_lines.proofs.Sorting.{sorted-map}

each-written : {X : Type 0} (f : X → Markup → Markup) → ((x : X) (rest : Markup) (more : List ℕ) → written (f x rest) more ≡ written (f x nothing) [] ++ written rest more)
    → (xs : List X) (rest : Markup) (more : List ℕ) → written (each_markup f xs rest) more ≡ concat (map (λ x. written (f x nothing) []) xs) ++ written rest more
each-written f one [] rest more = refl
each-written f one (x ∷ xs) rest more =
    one x (each_markup f xs rest) more ∙ ap (λ l. written (f x nothing) [] ++ l) (each-written f one xs rest more)
    ∙ sym (append_assoc (written (f x nothing) []) (concat (map (λ x. written (f x nothing) []) xs)) (written rest more))

footnote-written : (f : Footnote) (rest : Markup) (more : List ℕ) → written (footnote_markup f rest) more ≡ written (footnote_markup f nothing) [] ++ written rest more
footnote-written f rest more =
    let start = start_text (codes "link:footnote") (type_attr (codes "resource") ∷ attr (codes "xlink:label") f.id ∷ attr (codes "xlink:role") f.role
    ∷ (attr_if (codes "xlink:title") f.title ++ attr (codes "xml:lang") f.lang ∷ [])) in
    let close = close_text (codes "link:footnote") in
    sym (append_assoc start (f.body ++ close) (written rest more) ∙ ap (λ l. start ++ l) (append_assoc f.body close (written rest more)))

pub link-written : (l : NoteLink) →
    start_text (codes "link:footnoteLink") (type_attr (codes "extended") ∷ attr (codes "xlink:role") l.role ∷ [])
    ++ (concat (map locator_text (in_order text_cmp l.locs))
    ++ (concat (map footnote_text (sorted (on (λ (f : Footnote). f.id) text_cmp) l.footnotes))
    ++ (concat (sorted text_cmp (map arc_text l.arcs))
    ++ (close_text (codes "link:footnoteLink") ++ 10 ∷ []))))
    ≡ line (link_markup l)
link-written l =
    let start = start_text (codes "link:footnoteLink") (type_attr (codes "extended") ∷ attr (codes "xlink:role") l.role ∷ []) in
    let end = close_text (codes "link:footnoteLink") ++ 10 ∷ [] in
    let locs = in_order text_cmp l.locs in
    let notes = sorted (on (λ (f : Footnote). f.id) text_cmp) l.footnotes in
    let arcs = sorted arc_line_cmp l.arcs in
    sym (ap (λ x. start ++ x)
    (each-written locator_markup (λ x rest more. simp append_assoc) locs (each_markup footnote_markup notes (each_markup arc_markup arcs nothing)) end
    ∙ ap (λ x. concat (map locator_text locs) ++ x)
    (each-written footnote_markup footnote-written notes (each_markup arc_markup arcs nothing) end
    ∙ ap (λ x. concat (map footnote_text notes) ++ x)
    (each-written arc_markup (λ x rest more. simp append_assoc) arcs nothing end
    ∙ ap (λ x. concat x ++ end) (sym (sorted-map arc_text text_cmp l.arcs))))))
