-- The lines of a content, kind by kind.
use Rattle.std.proofs.Common.{◌≡◌, ◌∙◌, ap, sym, ℕ, List, [], ◌∷◌, ◌++◌, map, refl}
use Rattle.std.specs.Ordering.{on}
use Rattle.ix_base.specs.Facts.{facts_of}
use Rattle.ix_base.specs.Once.{in_order}
use Rattle.ix_base.specs.SortedLists.{sorted, text_cmp}
use Rattle.ix_base.specs.declared.content.Content.{Content}
use Rattle.ix_base.specs.declared.content.Context.{Context}
use Rattle.ix_base.specs.declared.content.Fact.{Fact}
use Rattle.ix_base.specs.declared.content.NoteLink.{NoteLink}
use Rattle.ix_base.specs.declared.content.Unit.{Unit as UnitContent}
use Rattle.instance_lines.specs.Canonical.{Spaces, arcrole_markup, canon_lines, children, content_spaces, context_markup, fact_markups, first_line, last_line, line, line_cmp, lines_with, link_markup, linkbase_markup, role_markup, root_line, schema_markup, unit_markup}
use Rattle.instance_lines.specs.Elements.{fact_line, fact_markup}
use Rattle.instance_lines.specs.Gains.{Gains}
use Rattle.instance_lines.proofs.MarkupLaws.{fact_markups-are}
use Rattle.instance_lines.proofs.Sorting.{map-map, sorted_lines}

apart : {X Y : Type 0} (f : X → Y) (xs ys : List X) (more : List Y) → map f (xs ++ ys) ++ more ≡ map f xs ++ (map f ys ++ more)
apart f [] ys more = refl
apart f (x ∷ xs) ys more = ap (λ l. f x ∷ l) (apart f xs ys more)

facts-are : (spaces : Spaces) (fs : List Fact) → map line (sorted line_cmp (fact_markups spaces (facts_of fs))) ≡ sorted text_cmp (map (fact_line spaces) fs)
facts-are spaces fs = ap (λ ms. map line (sorted line_cmp ms)) (fact_markups-are spaces fs) ∙ sym (sorted_lines (fact_markup spaces) fs)

abbrev pub references : Content → List (List ℕ) → List (List ℕ)
references c more =
    map line (in_order line_cmp (map schema_markup c.schemas))
    ++ (map line (in_order line_cmp (map linkbase_markup c.linkbases))
    ++ (map line (in_order line_cmp (map role_markup c.roles))
    ++ (map line (in_order line_cmp (map arcrole_markup c.arcroles))
    ++ more)))

abbrev pub others : Spaces → Content → List (List ℕ) → List (List ℕ)
others spaces c more =
    map (λ (x : Context). line (context_markup spaces x)) (sorted (on (λ (x : Context). x.id) text_cmp) c.contexts)
    ++ (map (λ (x : UnitContent). line (unit_markup spaces x)) (sorted (on (λ (x : UnitContent). x.id) text_cmp) c.units)
    ++ (sorted text_cmp (map (fact_line spaces) c.facts)
    ++ (map (λ (x : NoteLink). line (link_markup x)) (sorted (on (λ (l : NoteLink). l.role) text_cmp) c.notes)
    ++ more)))

children-are : (spaces : Spaces) (c : Content) (more : List (List ℕ)) → map line (children spaces c (facts_of c.facts)) ++ more ≡ references c (others spaces c more)
unfolding children
children-are spaces c more =
    rw (apart line, apart line, apart line, apart line, apart line, apart line, apart line, facts-are, map-map (context_markup spaces) line, map-map (unit_markup spaces) line, map-map link_markup line) refl

canon_lines-are : (c : Content) → first_line ∷ root_line (content_spaces c (facts_of c.facts)) ∷ references c (others (content_spaces c (facts_of c.facts)) c (last_line ∷ [])) ≡ canon_lines c
unfolding lines_with
canon_lines-are c =
    let spaces = content_spaces c (facts_of c.facts) in
    ap (λ l. first_line ∷ root_line spaces ∷ l) (sym (children-are spaces c (last_line ∷ [])))

-- lines that are added one after another
pub lines_from : (c : Content) (spaces : Spaces) (l₀ l₁ l₂ l₃ l₄ : List (List ℕ))
    → spaces ≡ content_spaces c (facts_of c.facts) → l₀ ≡ [] → Gains l₀ l₁ (λ more. first_line ∷ root_line spaces ∷ more)
    → Gains l₁ l₂ (references c) → Gains l₂ l₃ (others spaces c) → l₄ ≡ l₃ ++ last_line ∷ []
    → l₄ ≡ canon_lines c
lines_from c spaces l₀ l₁ l₂ l₃ l₄ s none head refs rest last =
    last ∙ rest (last_line ∷ []) ∙ refs (others spaces c (last_line ∷ [])) ∙ head (references c (others spaces c (last_line ∷ [])))
    ∙ ap (λ x. x ++ first_line ∷ root_line spaces ∷ references c (others spaces c (last_line ∷ []))) none
    ∙ ap (λ ss. first_line ∷ root_line ss ∷ references c (others ss c (last_line ∷ []))) s
    ∙ canon_lines-are c
