-- Where a text stands in a list of texts in order, each once, and which prefix it has there.
use Rattle.std.proofs.Common.{◌≡◌, ◌∙◌, ℕ, zero, suc, ◌+◌, ◌-◌, ◌<◌, ◌≤◌, true, false, List, [], ◌∷◌, length, map, get_or, Some, None, Err, sym, ap, refl, arith, bytes_eq, subst, ⊎_elim}
use Rattle.std.specs.Borrow.{Bor}
use Rattle.std.specs.Cmp.{Equal-is}
use Rattle.std.specs.List.{Contains}
use Rattle.std.specs.List.Sorted.{IsStrictlySortedBy, IsSorted, IsBinarySearchResult}
use Rattle.std.specs.Ordering.{on, is_eq, is_lt, ordering_reverse}
use Rattle.std.specs.declared.cmp.Ordering.{Ordering}
use Rattle.std.specs.declared.cmp.Ordering.TheVariants.{Less, Equal, Greater}
use Rattle.std.proofs.Math.ListN.{get_or-map}
use Rattle.std.proofs.lemmas.Bool.{cases_lt}
use Rattle.std.proofs.lemmas.List.{get_or_default, length-map}
use Rattle.std.proofs.lemmas.List.Sorted.{searchable_from_sorted}
use Rattle.std.proofs.lemmas.Map.Keys.{Less-from_sorted, sorted_tail}
use Rattle.std.proofs.lemmas.Map.Text.{is_eq-slice_cmp}
use Rattle.ix_base.specs.SortedLists.{text_cmp}
use Rattle.ix_base.proofs.OnceLemmas.{Contains-first, Contains-later}
use Rattle.ix_base.proofs.OrderLemmas.{text_total, same_text}
use Rattle.page_constructs.proofs.SpanLaws.{bytes-apart, bytes-same}
use Rattle.page_plain.specs.Bare.{numbered, prefix_at, prefix_in}
use Rattle.page_plain.proofs.MemberLaws.{Contains-from_map}

-- texts that don't tie differ
apart : (a b : List ℕ) (r : Ordering) → text_cmp a b ≡ r → is_eq r ≡ false → bytes_eq b a ≡ false
apart a b r e n =
    bytes-apart b a (λ q. let both : false ≡ true = sym n ∙ ap is_eq (sym e) ∙ is_eq-slice_cmp a b ∙ ap (bytes_eq a) q ∙ bytes-same a in cc)

-- a text at a place has the prefix of that place
pub prefix-at : (x : List ℕ) (k : ℕ) (xs : List (List ℕ)) (i : ℕ) (d : List ℕ) → IsStrictlySortedBy text_cmp xs → i < length xs → get_or xs i d ≡ x
    → prefix_in (numbered k xs) x ≡ Some (prefix_at (k + i))
prefix-at x k [] i d up l e = absurd (omega arith)
prefix-at x k (s ∷ xs) zero d up l e =
    let same : bytes_eq x s ≡ true = ap (bytes_eq x) e ∙ bytes-same x in
    let first : k ≡ k + 0 = omega arith in
    rw same (ap (λ n. Some (prefix_at n)) first)
prefix-at x k (s ∷ xs) (suc i) d up l e =
    let later : bytes_eq x s ≡ false = apart s x Less (ap (text_cmp s) (sym e) ∙ Less-from_sorted text_cmp (s ∷ xs) zero (suc i) d up (omega arith) l) refl in
    let next : suc k + i ≡ k + suc i = omega arith in
    let rest : prefix_in (numbered (suc k) xs) x ≡ Some (prefix_at (k + suc i)) =
    prefix-at x (suc k) xs i d (sorted_tail text_cmp s xs up) (omega arith) e ∙ ap (λ n. Some (prefix_at n)) next in
    rw later rest

-- one that is none of them has none
pub prefix-none : (x : List ℕ) (k : ℕ) (xs : List (List ℕ)) → ((y : List ℕ) → Contains xs y → bytes_eq x y ≡ false) → prefix_in (numbered k xs) x ≡ None
prefix-none x k [] h = refl
prefix-none x k (y ∷ ys) h = rw (h y (Contains-first y ys)) (prefix-none x (suc k) ys (λ z c. h z (Contains-later y ys z c)))

-- What a search by halving tells, where xs are the texts seen.
module _ (x : List ℕ) (xs : List (Bor (List ℕ))) (seen : List (List ℕ)) (shown : map (λ s. s.now) xs ≡ seen) (up : IsStrictlySortedBy text_cmp seen) where
  as-seen : (i : ℕ) (d : Bor (List ℕ)) → (get_or xs i d).now ≡ get_or seen i d.now
  as-seen i d = sym (get_or-map (λ s. s.now) xs i d) ∙ ap (λ l. get_or l i d.now) shown

  many : length xs ≡ length seen
  many = sym (length-map xs (λ s. s.now)) ∙ ap length shown

  pub place-found : (i : ℕ) (d : Bor (List ℕ)) → i < length xs → text_cmp (get_or xs i d).now x ≡ Equal → get_or seen (i + 1 - 1) [] ≡ x
  place-found i d l e =
      let back : i + 1 - 1 ≡ i = omega arith in
      ap (λ k. get_or seen k []) back ∙ get_or_default seen i [] d.now (omega (arith, many)) ∙ sym (as-seen i d) ∙ same_text (get_or xs i d).now x e

  sorted : IsSorted (on (λ (s : Bor (List ℕ)). s.now) text_cmp) xs
  sorted k d low h =
      let less = Less-from_sorted text_cmp seen k (k + 1) d.now up (omega arith) (omega (arith, many)) in
      let both : text_cmp (get_or xs k d).now (get_or xs (k + 1) d).now ≡ Less =
      ap (λ a. text_cmp a (get_or xs (k + 1) d).now) (as-seen k d) ∙ ap (text_cmp (get_or seen k d.now)) (as-seen (k + 1) d) ∙ less in
      ap is_lt (text_total.antisymm (get_or xs (k + 1) d).now (get_or xs k d).now ∙ ap ordering_reverse both)

  -- nothing that is there is missed
  pub place-missed : (i : ℕ) → i ≤ length xs → IsBinarySearchResult (λ y. text_cmp y.now x) xs (Err i) → Contains seen x → ⊥
  place-missed i within at there =
      let parted = at (searchable_from_sorted text_total (λ (s : Bor (List ℕ)). s.now) xs x sorted) in
      let found = Contains-from_map (λ (s : Bor (List ℕ)). s.now) xs x (subst (λ l. Contains l x) (sym shown) there) in
      let k : ℕ = found.1.0 in
      let low : k < length xs = found.1.1 in
      let here : (get_or xs k found.0).now ≡ x = ap (λ s. s.now) found.1.2 ∙ found.2 in
      let tied : text_cmp (get_or xs k found.0).now x ≡ Equal = ap (text_cmp (get_or xs k found.0).now) (sym here) ∙ (Equal-is (text_cmp (get_or xs k found.0).now (get_or xs k found.0).now)).0
      (is_eq-slice_cmp (get_or xs k found.0).now (get_or xs k found.0).now ∙ bytes-same (get_or xs k found.0).now) in
      ⊎_elim
      (λ less. let both : Less ≡ Equal = sym (parted.0 k found.0 (omega arith) less) ∙ tied in cc)
      (λ more. let both : Greater ≡ Equal = sym (parted.1 k found.0 more low) ∙ tied in cc) (cases_lt k i)
