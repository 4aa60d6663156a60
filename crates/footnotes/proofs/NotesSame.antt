-- Footnote links don't depend on the order of the pages.
use Rattle.std.proofs.Common.{◌≡◌, ◌∙◌, ◌++◌, ℕ, Bool, true, false, cond, List, [], ◌∷◌, map, refl, ap, sym, subst, append_assoc}
use Rattle.std.specs.Prelude.{bytes_eq}
use Rattle.std.specs.List.{filter, flat_map, filter_map}
use Rattle.std.specs.List.Sorted.{IsPermutation}
use Rattle.std.proofs.lemmas.List.Sorted.{IsPermutation-append, IsPermutation-append_comm, IsPermutation-map, IsPermutation-refl, IsPermutation-trans}
use Rattle.std.proofs.lemmas.Cmp.{nat_list_cmp_total}
use Rattle.std.proofs.lemmas.List.Concat.{flat_map-append}
use Rattle.ix_base.specs.declared.content.Arc.{Arc}
use Rattle.ix_base.specs.Asks.{Asks, asks}
use Rattle.ix_base.specs.Ids.{one_such}
use Rattle.ix_base.specs.LinkRules.{is_relationship, is_footnote}
use Rattle.ix_base.specs.LocatedElements.{Located, is_fact}
use Rattle.ix_base.specs.Once.{in_order}
use Rattle.ix_base.proofs.ExchangeLemmas.{by_exchanges}
use Rattle.ix_base.proofs.OnceLemmas.{SameMembers-permutation, in_order-same}
use Rattle.ix_base.specs.SortedLists.{text_cmp}
use Rattle.ix_base.proofs.OnceOrdered.{same_text}
use Rattle.footnotes.specs.FootnoteLinks.{Between, label, arcs_by, arcs_in, arc_texts_cmp, ends, footnote_of, link_of, notes}
use Rattle.id_table.proofs.Rearranged.{asks-same}
use Rattle.footnotes.proofs.OnceLaws.{arc_total, same_arc}
use Rattle.footnotes.proofs.RoleLaws.{map-same}

pub swap_parts : {A : Type 0} (front u v back : List A) → IsPermutation (front ++ (u ++ (v ++ back))) (front ++ (v ++ (u ++ back)))
swap_parts front u v back =
    IsPermutation-append front front (u ++ (v ++ back)) (v ++ (u ++ back)) (IsPermutation-refl front)
    (subst (λ l. IsPermutation l (v ++ (u ++ back))) (append_assoc u v back)
    (subst (IsPermutation ((u ++ v) ++ back)) (append_assoc v u back)
    (IsPermutation-append (u ++ v) (v ++ u) back back (IsPermutation-append_comm u v) (IsPermutation-refl back))))

-- the parts of a rearranged list, joined, are rearranged
pub IsPermutation-flat_map : {X A : Type 0} (f : X → List A) (xs ys : List X) → IsPermutation xs ys → IsPermutation (flat_map f xs) (flat_map f ys)
IsPermutation-flat_map f xs ys m = by_exchanges (λ l. IsPermutation (flat_map f xs) (flat_map f l))
    (λ front back a b h. IsPermutation-trans (flat_map f xs) (flat_map f (front ++ a ∷ b ∷ back)) (flat_map f (front ++ b ∷ a ∷ back)) h
    (subst (λ l. IsPermutation l (flat_map f (front ++ b ∷ a ∷ back))) (sym (flat_map-append f front (a ∷ b ∷ back)))
    (subst (IsPermutation (flat_map f front ++ (f a ++ (f b ++ flat_map f back)))) (sym (flat_map-append f front (b ∷ a ∷ back)))
    (swap_parts (flat_map f front) (f a) (f b) (flat_map f back)))))
    xs ys m (IsPermutation-refl (flat_map f xs))

filter-flat : {X : Type 0} (p : X → Bool) (xs : List X) → filter p xs ≡ flat_map (λ x. cond (p x) (x ∷ []) []) xs
filter-flat p [] = refl
filter-flat p (x ∷ xs) = ap (λ l. cond (p x) (x ∷ l) l) (filter-flat p xs) ∙ by (p x) x (flat_map (λ y. cond (p y) (y ∷ []) []) xs) where
  by : {X : Type 0} (b : Bool) (x : X) (l : List X) → cond b (x ∷ l) l ≡ cond b (x ∷ []) [] ++ l
  by true x l = refl
  by false x l = refl

pub filter-moved : {X : Type 0} (p : X → Bool) (xs ys : List X) → IsPermutation xs ys → IsPermutation (filter p xs) (filter p ys)
filter-moved p xs ys m =
    subst (λ l. IsPermutation l (filter p ys)) (sym (filter-flat p xs))
    (subst (IsPermutation (flat_map (λ x. cond (p x) (x ∷ []) []) xs)) (sym (filter-flat p ys)) (IsPermutation-flat_map (λ x. cond (p x) (x ∷ []) []) xs ys m))

pub texts-same : (xs ys : List (List ℕ)) → IsPermutation xs ys → in_order text_cmp xs ≡ in_order text_cmp ys
texts-same xs ys m = in_order-same same_text nat_list_cmp_total xs ys (SameMembers-permutation xs ys m)

arcs-same : (xs ys : List Arc) → IsPermutation xs ys → in_order arc_texts_cmp xs ≡ in_order arc_texts_cmp ys
arcs-same xs ys m = in_order-same same_arc arc_total xs ys (SameMembers-permutation xs ys m)

labels-same : (p : Located → Bool) (xs ys : List Between) → IsPermutation xs ys → in_order text_cmp (map label (filter p (ends xs))) ≡ in_order text_cmp (map label (filter p (ends ys)))
labels-same p xs ys m = texts-same (map label (filter p (ends xs))) (map label (filter p (ends ys)))
    (IsPermutation-map label (filter p (ends xs)) (filter p (ends ys)) (filter-moved p (ends xs) (ends ys) (IsPermutation-flat_map (λ x. x.from ∷ x.to ∷ []) xs ys m)))

link-same : (bases : Located → List ℕ) (a : Asks Located) (role : List ℕ) (xs ys : List Between) → IsPermutation xs ys → link_of bases a role xs ≡ link_of bases a role ys
link-same bases a role xs ys m = λ i. record {
  role = role;
  locs = labels-same is_fact xs ys m i;
  footnotes = map (footnote_of bases a) (filter_map (one_such is_footnote a) (labels-same is_footnote xs ys m i));
  arcs = arcs-same (map (λ x. x.arc) xs) (map (λ x. x.arc) ys) (IsPermutation-map (λ x. x.arc) xs ys m) i;
}

arcs-moved : (xs ys : List Located) (target : List ℕ) → IsPermutation xs ys → IsPermutation (arcs_in xs target) (arcs_in ys target)
arcs-moved xs ys target m =
    subst (λ (a : Asks Located). IsPermutation (arcs_in xs target) (flat_map (λ r. arcs_by (is_relationship r) a target r) ys)) (asks-same xs ys m)
    (IsPermutation-flat_map (λ r. arcs_by (is_relationship r) (asks xs) target r) xs ys m)

pub notes-same : (bases : Located → List ℕ) (xs ys : List Located) (target : List ℕ) → IsPermutation xs ys → notes bases xs target ≡ notes bases ys target
notes-same bases xs ys target m =
    let arcs = arcs-moved xs ys target m in
    ap (map (λ role. link_of bases (asks xs) role (filter (λ x. bytes_eq role x.role) (arcs_in xs target))))
    (texts-same (map (λ x. x.role) (arcs_in xs target)) (map (λ x. x.role) (arcs_in ys target)) (IsPermutation-map (λ x. x.role) (arcs_in xs target) (arcs_in ys target) arcs))
    ∙ map-same _ (λ role. link_of bases (asks ys) role (filter (λ x. bytes_eq role x.role) (arcs_in ys target)))
    (λ role. link-same bases (asks xs) role (filter (λ x. bytes_eq role x.role) (arcs_in xs target)) (filter (λ x. bytes_eq role x.role) (arcs_in ys target))
    (filter-moved (λ x. bytes_eq role x.role) (arcs_in xs target) (arcs_in ys target) arcs)
    ∙ ap (λ a. link_of bases a role (filter (λ x. bytes_eq role x.role) (arcs_in ys target))) (asks-same xs ys m))
    (in_order text_cmp (map (λ x. x.role) (arcs_in ys target)))
