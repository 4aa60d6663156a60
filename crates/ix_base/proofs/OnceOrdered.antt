-- What a sort and a `dedup` leave is in order, each once.
use Rattle.std.proofs.Common.{◌≡◌, ℕ, Bool, List, [], ◌∷◌, map, sym, ap, ◌∙◌, subst}
use Rattle.std.specs.List.{dedup}
use Rattle.std.specs.List.Sorted.{IsStrictlySortedBy, IsSorted, IsPermutation}
use Rattle.std.specs.Cmp.{IsTotalOrder, Equal-is}
use Rattle.std.specs.declared.cmp.Ordering.{Ordering}
use Rattle.std.specs.declared.cmp.Ordering.TheVariants.{Less, Equal}
use Rattle.std.specs.Ordering.{on, is_eq, eq_by_cmp}
use Rattle.std.proofs.ByRecursion.{All-map}
use Rattle.std.proofs.lemmas.Cmp.{eq_by_cmp_equiv, on_total}
use Rattle.std.proofs.lemmas.Map.Text.{is_eq-slice_cmp}
use Rattle.std.proofs.lemmas.Slice.Eq.{bytes_eq-Decides}
use Rattle.std.proofs.lemmas.List.Kept.{IsStrictlySortedBy-dedup, Contains-dedup, Contains-from_dedup}
use Rattle.std.proofs.lemmas.List.Sorted.{IsPermutation-map}
use Rattle.ix_base.specs.Once.{SameMembers, in_order}
use Rattle.ix_base.specs.SortedLists.{text_cmp}
use Rattle.ix_base.proofs.LineLemmas.{map-dedup}
use Rattle.ix_base.proofs.OnceLemmas.{SameMembers-permutation, SameMembers-trans, is_in_order}

-- texts that tie are one
pub same_text : (a b : List ℕ) → text_cmp a b ≡ Equal → a ≡ b
same_text a b e = (bytes_eq-Decides a b).0 (sym (is_eq-slice_cmp a b) ∙ ap is_eq e)

strict-map : {X Y : Type 0} (f : X → Y) (R : Y → Y → Ordering) (xs : List X) → IsStrictlySortedBy (on f R) xs → IsStrictlySortedBy R (map f xs)
unfolding IsStrictlySortedBy
strict-map f R [] h = tt
strict-map f R (x ∷ xs) h = (All-map (λ y. R (f x) y ≡ Less) f xs h.0, strict-map f R xs h.1)

-- xs, by what f makes of them, where a sort left zs and a `dedup` of these ys
pub once_in_order : {X Y : Type 0} (f : X → Y) (R : Y → Y → Ordering) → IsTotalOrder R → ((a b : Y) → R a b ≡ Equal → a ≡ b)
    → (E : X → X → Bool) → ((x y : X) → E x y ≡ eq_by_cmp (on f R) x y)
    → (xs zs ys : List X) → IsPermutation xs zs → IsSorted (on f R) zs → ys ≡ dedup E zs → map f ys ≡ in_order R (map f xs)
once_in_order {X} {Y} f R total same E ties xs zs ys moved up e =
    let F : Y → Y → Bool = eq_by_cmp R in
    let left : map f (dedup E zs) ≡ dedup F (map f zs) =
    ap (λ (G : X → X → Bool). map f (dedup G zs)) (λ i x y. ties x y i) ∙ map-dedup f F zs in
    let strict : IsStrictlySortedBy R (map f (dedup E zs)) =
    strict-map f R (dedup E zs) (IsStrictlySortedBy-dedup (on_total f total) ties zs up) in
    let moved_too = SameMembers-permutation (map f xs) (map f zs) (IsPermutation-map f xs zs moved) in
    let kept : SameMembers (map f zs) (dedup F (map f zs)) = record {
      there = Contains-dedup (eq_by_cmp_equiv total) (λ x y t. same x y ((Equal-is (R x y)).0 t)) (map f zs);
      back = Contains-from_dedup F (map f zs);
    } in
    let members = SameMembers-trans (map f xs) (map f zs) (dedup F (map f zs)) moved_too kept in
    ap (map f) e ∙ left ∙ is_in_order same total (map f xs) (dedup F (map f zs)) (subst (IsStrictlySortedBy R) left strict) members
