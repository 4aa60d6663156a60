-- Contents that differ in the order of references and of facts alone have one canonical text.
use Rattle.std.proofs.Common.{◌≡◌, ◌∙◌, ap, sym, refl, ℕ, Bool, true, false, cond, List, [], ◌∷◌, ◌++◌, map}
use Rattle.std.specs.Prelude.{flat_map}
use Rattle.std.specs.List.{concat}
use Rattle.std.specs.List.Sorted.{IsPermutation}
use Rattle.std.specs.Ordering.{on}
use Rattle.std.proofs.lemmas.Cmp.{nat_list_cmp_total}
use Rattle.std.proofs.lemmas.List.{map-append}
use Rattle.std.proofs.lemmas.List.Sorted.{IsPermutation-map}
use Rattle.ix_base.specs.declared.content.Content.{Content}
use Rattle.ix_base.specs.declared.content.Context.{Context}
use Rattle.ix_base.specs.declared.content.Fact.{Fact}
use Rattle.ix_base.specs.declared.content.NoteLink.{NoteLink}
use Rattle.ix_base.specs.declared.content.OwnName.{OwnName}
use Rattle.ix_base.specs.declared.content.Unit.{Unit as UnitContent}
use Rattle.ix_base.specs.Facts.{facts_of}
use Rattle.ix_base.specs.Once.{in_order}
use Rattle.ix_base.specs.SortedLists.{sorted, text_cmp}
use Rattle.ix_base.specs.WrittenMarkup.{Markup}
use Rattle.ix_base.proofs.OnceOrdered.{same_text}
use Rattle.ix_base.proofs.SortedLemmas.{sorted-same}
use Rattle.instance_lines.specs.Arrangement.{arranged, arranged_link, with_arranged_links}
use Rattle.instance_lines.specs.Canonical.{Spaces, arcrole_markup, canon, canon_lines, children, content_spaces, context_markup, context_names}
use Rattle.instance_lines.specs.Canonical.{fact_markups, fact_names, first_line, last_line, line, line_cmp, linkbase_markup, lines_with}
use Rattle.instance_lines.specs.Canonical.{link_markup, role_markup, root_line, schema_markup, unit_markup, unit_names}
use Rattle.instance_lines.specs.Elements.{fact_markup}
use Rattle.instance_lines.specs.Prefixes.{is_known, spaces_of}
use Rattle.instance_lines.specs.Tables.{own_spaces}
use Rattle.instance_lines.proofs.ArrangedLaws.{lines-arranged, names_in, names_of, spaces-behind}
use Rattle.instance_lines.proofs.MarkupLaws.{fact_markups-are}
use Rattle.instance_lines.proofs.PrefixLaws.{spaces_of-in_order}
use Rattle.instance_lines.proofs.Sorting.{once_lines, sorted_lines}
use Rattle.footnotes.proofs.NotesSame.{IsPermutation-flat_map, texts-same}

-- they differ in the order of references and of facts alone
pub record IsShuffled (c d : Content) : Type 0 where
  pub schemas : IsPermutation c.schemas d.schemas
  pub linkbases : IsPermutation c.linkbases d.linkbases
  pub facts : IsPermutation c.facts d.facts
  pub roles : c.roles ≡ d.roles
  pub arcroles : c.arcroles ≡ d.arcroles
  pub contexts : c.contexts ≡ d.contexts
  pub units : c.units ≡ d.units
  pub notes : c.notes ≡ d.notes

-- Namespaces.

own-flat : (ns : List OwnName) → own_spaces ns ≡ flat_map (λ n. cond (is_known n.ns) [] (n.ns ∷ [])) ns
own-flat [] = refl
own-flat (n ∷ ns) = by (is_known n.ns) (own-flat ns)
  where
    by : (b : Bool) → own_spaces ns ≡ flat_map (λ n. cond (is_known n.ns) [] (n.ns ∷ [])) ns
        → cond b (own_spaces ns) (n.ns ∷ own_spaces ns) ≡ cond b [] (n.ns ∷ []) ++ flat_map (λ n. cond (is_known n.ns) [] (n.ns ∷ [])) ns
    by true e = e
    by false e = ap (λ l. n.ns ∷ l) e

spaces-permuted : (ms ns : List OwnName) → IsPermutation ms ns → spaces_of ms ≡ spaces_of ns
spaces-permuted ms ns m =
    let own = λ (n : OwnName). cond (is_known n.ns) [] (n.ns ∷ []) in
    sym (spaces_of-in_order ms)
    ∙ ap (in_order text_cmp) (own-flat ms) ∙ texts-same (flat_map own ms) (flat_map own ns) (IsPermutation-flat_map own ms ns m) ∙ ap (in_order text_cmp) (sym (own-flat ns))
    ∙ spaces_of-in_order ns

names-permuted : (fs gs : List Fact) → IsPermutation fs gs → spaces_of (fact_names (facts_of fs)) ≡ spaces_of (fact_names (facts_of gs))
names-permuted fs gs m =
    ap spaces_of (names_of fs) ∙ spaces-permuted (flat_map names_in fs) (flat_map names_in gs) (IsPermutation-flat_map names_in fs gs m) ∙ ap spaces_of (sym (names_of gs))

spaces-shuffled : (c d : Content) → IsShuffled c d → content_spaces c (facts_of c.facts) ≡ content_spaces d (facts_of d.facts)
unfolding content_spaces
spaces-shuffled c d h =
    spaces-behind (flat_map context_names c.contexts) (flat_map unit_names c.units ++ fact_names (facts_of c.facts)) (flat_map unit_names c.units ++ fact_names (facts_of d.facts))
    (spaces-behind (flat_map unit_names c.units) (fact_names (facts_of c.facts)) (fact_names (facts_of d.facts)) (names-permuted c.facts d.facts h.facts))
    ∙ (λ i. spaces_of (flat_map context_names (h.contexts i) ++ (flat_map unit_names (h.units i) ++ fact_names (facts_of d.facts))))

-- Lines.

once-shuffled : {X : Type 0} (f : X → Markup) (xs ys : List X) → IsPermutation xs ys → map line (in_order line_cmp (map f xs)) ≡ map line (in_order line_cmp (map f ys))
once-shuffled {X} f xs ys m =
    let g : X → List ℕ = λ x. line (f x) in
    sym (once_lines f xs) ∙ texts-same (map g xs) (map g ys) (IsPermutation-map g xs ys m) ∙ once_lines f ys

sorted-shuffled : {X : Type 0} (f : X → Markup) (xs ys : List X) → IsPermutation xs ys → map line (sorted line_cmp (map f xs)) ≡ map line (sorted line_cmp (map f ys))
sorted-shuffled {X} f xs ys m =
    let g : X → List ℕ = λ x. line (f x) in
    sym (sorted_lines f xs) ∙ sorted-same nat_list_cmp_total (map g xs) (map g ys) (λ x y p q. same_text x y) (IsPermutation-map g xs ys m) ∙ sorted_lines f ys

facts-shuffled : (spaces : Spaces) (fs gs : List Fact) → IsPermutation fs gs
    → map line (sorted line_cmp (fact_markups spaces (facts_of fs))) ≡ map line (sorted line_cmp (fact_markups spaces (facts_of gs)))
facts-shuffled spaces fs gs m =
    ap (λ ms. map line (sorted line_cmp ms)) (fact_markups-are spaces fs) ∙ sorted-shuffled (fact_markup spaces) fs gs m
    ∙ ap (λ ms. map line (sorted line_cmp ms)) (sym (fact_markups-are spaces gs))

both-lines : (a b m n : List Markup) → map line a ≡ map line b → map line m ≡ map line n → map line (a ++ m) ≡ map line (b ++ n)
both-lines a b m n e f = map-append line a m ∙ (λ i. e i ++ f i) ∙ sym (map-append line b n)

children-shuffled : (c d : Content) → IsShuffled c d → (spaces : Spaces)
    → map line (children spaces (with_arranged_links c) (facts_of c.facts)) ≡ map line (children spaces (with_arranged_links d) (facts_of d.facts))
unfolding children
children-shuffled c d h spaces =
    both-lines _ _ _ _ (once-shuffled schema_markup c.schemas d.schemas h.schemas)
    (both-lines _ _ _ _ (once-shuffled linkbase_markup c.linkbases d.linkbases h.linkbases)
    (both-lines _ _ _ _ (ap (λ rs. map line (in_order line_cmp (map role_markup rs))) h.roles)
    (both-lines _ _ _ _ (ap (λ rs. map line (in_order line_cmp (map arcrole_markup rs))) h.arcroles)
    (both-lines _ _ _ _ (ap (λ xs. map line (map (context_markup spaces) (sorted (on (λ (x : Context). x.id) text_cmp) xs))) h.contexts)
    (both-lines _ _ _ _ (ap (λ us. map line (map (unit_markup spaces) (sorted (on (λ (u : UnitContent). u.id) text_cmp) us))) h.units)
    (both-lines _ _ _ _ (facts-shuffled spaces c.facts d.facts h.facts)
    (ap (λ ls. map line (map link_markup (sorted (on (λ (l : NoteLink). l.role) text_cmp) (map arranged_link ls)))) h.notes)))))))

lines-shuffled : (c d : Content) → IsShuffled c d → canon_lines (with_arranged_links c) ≡ canon_lines (with_arranged_links d)
unfolding lines_with content_spaces
lines-shuffled c d h =
    ap (λ (s : Spaces). first_line ∷ root_line s ∷ (map line (children s (with_arranged_links c) (facts_of c.facts)) ++ last_line ∷ [])) (spaces-shuffled c d h)
    ∙ ap (λ (ls : List (List ℕ)). first_line ∷ root_line (content_spaces d (facts_of d.facts)) ∷ (ls ++ last_line ∷ []))
    (children-shuffled c d h (content_spaces d (facts_of d.facts)))

-- arranged, they have one text
pub same-canon : (c d : Content) → IsShuffled c d → canon (arranged c) ≡ canon (arranged d)
same-canon c d h = ap concat (lines-arranged c ∙ lines-shuffled c d h ∙ sym (lines-arranged d))
