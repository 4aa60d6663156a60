-- Footnote links under other page numbers.
use Rattle.std.proofs.Common.{◌≡◌, ◌∙◌, ◌++◌, ℕ, Bool, true, false, List, [], ◌∷◌, map, refl, ap, sym, Some}
use Rattle.std.proofs.lemmas.List.{map-append}
use Rattle.std.specs.Prelude.{bytes_eq, ◌==◌}
use Rattle.std.specs.List.{filter, flat_map, filter_map}
use Rattle.ix_base.specs.Asks.{asks}
use Rattle.ix_base.specs.Chain.{chain}
use Rattle.ix_base.specs.Ids.{one_such}
use Rattle.ix_base.specs.LinkRules.{from_ids, to_ids, is_relationship, is_footnote, is_end, named_by, target_of}
use Rattle.ix_base.specs.LocatedElements.{Located, is_fact}
use Rattle.ix_base.specs.Markup.{body, body_along, markup_along}
use Rattle.ix_base.specs.Once.{in_order}
use Rattle.ix_base.specs.WrittenMarkup.{written}
use Rattle.id_table.proofs.Asking.{map-filter}
use Rattle.ix_base.specs.SortedLists.{text_cmp}
use Rattle.footnotes.specs.FootnoteLinks.{Between, between, label, sources, arcs_by, arcs_in, arc_texts_cmp, ends, footnote_of, link_of, notes}
use Rattle.id_table.specs.Renumbering.{moved}
use Rattle.id_table.proofs.Renumbered.{map-same, map-twice, filter-same, named-moved, chain-moved}

pub flat-map : {X Y Z W : Type 0} (f : X → Y) (g : Y → List Z) (h : X → List W) (k : W → Z) → ((x : X) → g (f x) ≡ map k (h x)) → (xs : List X) → flat_map g (map f xs) ≡ map k (flat_map h xs)
flat-map f g h k e [] = refl
flat-map f g h k e (x ∷ xs) = (λ i. e x i ++ flat-map f g h k e xs i) ∙ sym (map-append k (h x) (flat_map h xs))

module _ (r : ℕ → ℕ) (apart : (x y : ℕ) → (r x == r y) ≡ (x == y)) (bases others : Located → List ℕ) (same : (e : Located) → others (moved r e) ≡ bases e) where
  both : Between → Between
  both x = record { role = x.role; arc = x.arc; from = moved r x.from; to = moved r x.to }

  sources-moved : (es : List Located) (target : List ℕ) (e : Located) → sources (asks (map (moved r) es)) target (moved r e) ≡ map (moved r) (sources (asks es) target e)
  sources-moved es target e = ap (filter (λ f. bytes_eq target (target_of f))) (named-moved r apart es is_fact (λ x. refl) (from_ids e))
      ∙ sym (map-filter (moved r) (λ f. bytes_eq target (target_of f)) (named_by is_fact (asks es) (from_ids e)))

  arcs_from-moved : (es : List Located) (e f : Located) → map (between (moved r e) (moved r f)) (named_by is_end (asks (map (moved r) es)) (to_ids e)) ≡ map both (map (between e f) (named_by is_end (asks es) (to_ids e)))
  unfolding both
  arcs_from-moved es e f = ap (map (between (moved r e) (moved r f))) (named-moved r apart es is_end (λ x. refl) (to_ids e))
      ∙ map-twice (between (moved r e) (moved r f)) (moved r) (named_by is_end (asks es) (to_ids e)) ∙ sym (map-twice both (between e f) (named_by is_end (asks es) (to_ids e)))

  by-moved : (b : Bool) (es : List Located) (target : List ℕ) (e : Located) → arcs_by b (asks (map (moved r) es)) target (moved r e) ≡ map both (arcs_by b (asks es) target e)
  by-moved true es target e =
      ap (flat_map (λ f. map (between (moved r e) f) (named_by is_end (asks (map (moved r) es)) (to_ids e)))) (sources-moved es target e)
      ∙ flat-map (moved r) (λ f. map (between (moved r e) f) (named_by is_end (asks (map (moved r) es)) (to_ids e))) (λ f. map (between e f) (named_by is_end (asks es) (to_ids e))) both
      (arcs_from-moved es e) (sources (asks es) target e)
  by-moved false es target e = refl

  arcs-moved : (es : List Located) (target : List ℕ) → arcs_in (map (moved r) es) target ≡ map both (arcs_in es target)
  arcs-moved es target = flat-map (moved r) (λ e. arcs_by (is_relationship e) (asks (map (moved r) es)) target e) (λ e. arcs_by (is_relationship e) (asks es) target e) both
      (λ e. by-moved (is_relationship e) es target e) es

  along-moved : (around : List ℕ) (es : List Located) → body_along (λ x. Some (others x)) around (map (moved r) es) ≡ body_along (λ x. Some (bases x)) around es
  along-moved around [] = refl
  along-moved around (e ∷ es) = λ i. body (Some (same e i)) around e.placed.tree.children (along-moved around es i)

  footnote-moved : (es : List Located) (e : Located) → footnote_of others (asks (map (moved r) es)) (moved r e) ≡ footnote_of bases (asks es) e
  footnote-moved es e = ap (λ text. record (footnote_of bases (asks es) e) { body = text })
      (ap (λ c. markup_along (λ x. Some (others x)) [] c) (chain-moved r apart es e) ∙ ap (λ m. written m []) (along-moved [] (chain (asks es) e)))

  ends-moved : (xs : List Between) → ends (map both xs) ≡ map (moved r) (ends xs)
  unfolding both
  ends-moved xs = flat-map both (λ x. x.from ∷ x.to ∷ []) (λ x. x.from ∷ x.to ∷ []) (moved r) (λ x. refl) xs

  labels-moved : (p : Located → Bool) → ((e : Located) → p (moved r e) ≡ p e) → (xs : List Between) → map label (filter p (ends (map both xs))) ≡ map label (filter p (ends xs))
  labels-moved p h xs = ap (λ es. map label (filter p es)) (ends-moved xs) ∙ ap (map label) (sym (map-filter (moved r) p (ends xs)))
      ∙ map-twice label (moved r) (filter (λ e. p (moved r e)) (ends xs)) ∙ ap (map label) (filter-same (λ e. p (moved r e)) p h (ends xs))

  link-moved : (es : List Located) (role : List ℕ) (xs : List Between) → link_of others (asks (map (moved r) es)) role (map both xs) ≡ link_of bases (asks es) role xs
  unfolding both
  link-moved es role xs = λ i. record {
    role = role;
    locs = in_order text_cmp (labels-moved is_fact (λ e. refl) xs i);
    footnotes = (ap (λ ids. map (footnote_of others (asks (map (moved r) es))) (filter_map (one_such is_footnote (asks (map (moved r) es))) (in_order text_cmp ids))) (labels-moved is_footnote (λ e. refl) xs)
        ∙ ap (map (footnote_of others (asks (map (moved r) es)))) (named-moved r apart es is_footnote (λ e. refl) (in_order text_cmp (map label (filter is_footnote (ends xs)))))
        ∙ map-twice (footnote_of others (asks (map (moved r) es))) (moved r) (named_by is_footnote (asks es) (in_order text_cmp (map label (filter is_footnote (ends xs)))))
        ∙ map-same _ (footnote_of bases (asks es)) (footnote-moved es) (named_by is_footnote (asks es) (in_order text_cmp (map label (filter is_footnote (ends xs)))))) i;
    arcs = in_order arc_texts_cmp (map-twice (λ x. x.arc) both xs i);
  }

  pub notes-moved : (es : List Located) (target : List ℕ) → notes others (map (moved r) es) target ≡ notes bases es target
  unfolding both
  notes-moved es target =
      ap (λ xs. map (λ role. link_of others (asks (map (moved r) es)) role (filter (λ x. bytes_eq role x.role) xs)) (in_order text_cmp (map (λ x. x.role) xs))) (arcs-moved es target)
      ∙ ap (λ roles. map (λ role. link_of others (asks (map (moved r) es)) role (filter (λ x. bytes_eq role x.role) (map both (arcs_in es target)))) (in_order text_cmp roles))
      (map-twice (λ x. x.role) both (arcs_in es target))
      ∙ map-same _ (λ role. link_of bases (asks es) role (filter (λ x. bytes_eq role x.role) (arcs_in es target)))
      (λ role. ap (link_of others (asks (map (moved r) es)) role) (sym (map-filter both (λ x. bytes_eq role x.role) (arcs_in es target)))
      ∙ link-moved es role (filter (λ x. bytes_eq role x.role) (arcs_in es target)))
      (in_order text_cmp (map (λ x. x.role) (arcs_in es target)))
