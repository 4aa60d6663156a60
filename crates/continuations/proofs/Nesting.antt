-- Places in order, among which others are looked for by halving.
use Rattle.std.proofs.Common.{◌≡◌, ◌∙◌, ◌+◌, ◌++◌, ℕ, ◌<◌, Bool, true, false, cond, List, [], ◌∷◌, length, get_or, take, sym, ap, refl, arith, Result, Ok, Err, ⊎_elim}
use Rattle.std.specs.Borrow.{Bor}
use Rattle.std.specs.Prelude.{◌&&◌, ◌==◌, ◌||◌, is_ok, nat_lt}
use Rattle.std.specs.Cmp.{IsTotalOrder}
use Rattle.std.specs.List.{list_any}
use Rattle.std.specs.List.Sorted.{IsSorted, IsBinarySearchResult, IsSearchInRange}
use Rattle.std.specs.declared.cmp.Ordering.{Ordering}
use Rattle.std.specs.declared.cmp.Ordering.TheVariants.{Less, Equal, Greater}
use Rattle.std.specs.Ordering.{is_eq, nat_cmp, ordering_then}
use Rattle.std.proofs.lemmas.Bool.{cases_lt, eqb-true, eq-eqb, ltb-true}
use Rattle.std.proofs.lemmas.Cmp.{nat_cmp_total, on_total, then_total}
use Rattle.std.proofs.lemmas.List.Folds.{list_any_at, list_any_none}
use Rattle.std.proofs.lemmas.List.Sorted.{searchable_from_sorted}
use Rattle.ix_base.specs.declared.tree.Spot.{Spot}
use Rattle.ix_base.specs.LinkRules.{is_at, stands_inside}
use Rattle.ix_base.specs.LocatedElements.{Located, located}
use Rattle.id_table.specs.Tables.{all_located}
use Rattle.id_table.proofs.RowLemmas.{located-take}
use Rattle.continuations.specs.Nesting.{is_around, is_nested, key_cmp}
use Rattle.id_table.specs.Slices.{is_key}
use Rattle.continuations.proofs.Inner.{in-any}
use Rattle.continuations.proofs.Numbering.{in-got, located-at}
use Rattle.continuations.proofs.Reaching.{same-bool}
use Rattle.continuations.proofs.SeenLaws.{any-append, any-same}

pub key_total : IsTotalOrder key_cmp
key_total = then_total (on_total (λ (k : ℕ × ℕ). k.0) nat_cmp_total) (on_total (λ (k : ℕ × ℕ). k.1) nat_cmp_total)

both-equal : (r s : Ordering) → is_eq (ordering_then r s) ≡ (is_eq r && is_eq s)
both-equal Less s = refl
both-equal Equal s = refl
both-equal Greater s = refl

pub flip : (m n : ℕ) → (m == n) ≡ (n == m)
flip m n = same-bool (m == n) (n == m) ((λ h. eq-eqb n m (sym (eqb-true m n h))), (λ h. eq-eqb m n (sym (eqb-true n m h))))

equal-by : (m n : ℕ) (b c : Bool) → nat_lt m n ≡ b → (m == n) ≡ c → is_eq (cond b Less (cond c Equal Greater)) ≡ c
equal-by m n true true h k = let l : m < n = ltb-true m n h in let e : m ≡ n = eqb-true m n k in absurd (omega (arith, l, e))
equal-by m n true false h k = refl
equal-by m n false true h k = refl
equal-by m n false false h k = refl

equal-nat : (m n : ℕ) → is_eq (nat_cmp m n) ≡ (m == n)
equal-nat m n = equal-by m n (nat_lt m n) (m == n) refl refl

-- a key that compares equal is the place
equal-key : (page offset : ℕ) (k : ℕ × ℕ) → is_eq (key_cmp k (page, offset)) ≡ is_key page offset k
equal-key page offset k =
    both-equal (nat_cmp k.0 page) (nat_cmp k.1 offset)
    ∙ (λ i. (equal-nat k.0 page ∙ flip k.0 page) i && (equal-nat k.1 offset ∙ flip k.1 offset) i)

there : (page offset : ℕ) (xs : List (ℕ × ℕ)) (i : ℕ) → i < length xs → ((d : ℕ × ℕ) → key_cmp (get_or xs i d) (page, offset) ≡ Equal) → list_any (is_key page offset) xs ≡ true
there page offset [] i h e = absurd (omega arith)
there page offset (z ∷ zs) i h e = list_any_at (is_key page offset) (z ∷ zs) i z h (sym (equal-key page offset (get_or (z ∷ zs) i z)) ∙ ap is_eq (e z))

pub other : (page offset : ℕ) (k : ℕ × ℕ) (r : Ordering) → key_cmp k (page, offset) ≡ r → is_eq r ≡ false → is_key page offset k ≡ false
other page offset k r e n = sym (equal-key page offset k) ∙ ap is_eq e ∙ n

pub key-found : (page offset : ℕ) (xs : List (ℕ × ℕ)) (r : Result ℕ ℕ) → IsSorted key_cmp xs → IsSearchInRange r (length xs)
    → IsBinarySearchResult (λ y. key_cmp y (page, offset)) xs r → is_ok r ≡ list_any (is_key page offset) xs
key-found page offset xs (Ok i) up within at = sym (there page offset xs i within at)
key-found page offset xs (Err i) up within at =
    let parted = at (searchable_from_sorted key_total (λ (k : ℕ × ℕ). k) xs (page, offset) up) in
    sym (list_any_none (is_key page offset) xs
    (λ k d h. ⊎_elim (λ less. other page offset (get_or xs k d) Less (parted.0 k d (omega arith) less) refl)
    (λ more. other page offset (get_or xs k d) Greater (parted.1 k d more h) refl) (cases_lt k i)))

-- an element is around this one at a place of these just where one of these is around it
pub around-is : (keys : List (ℕ × ℕ)) (es : List Located) → ((page offset : ℕ) → list_any (is_key page offset) keys ≡ list_any (is_at page offset) es)
    → (xs : List Located) → list_any (is_around keys) xs ≡ list_any (stands_inside es) xs
around-is keys es same xs =
    any-same (is_around keys) (stands_inside es)
    (λ x. any-same (λ t. list_any (is_key x.page t.head.offset) keys) (λ t. list_any (is_at x.page t.head.offset) es) (λ t. same x.page t.head.offset) x.placed.above) xs

-- one of these elements has another of them around it, at one of their places
pub nested-at : (keys : List (ℕ × ℕ)) (spots : List (Bor Spot)) (i : ℕ) (s : Bor Spot) → ((page offset : ℕ) → list_any (is_key page offset) keys ≡ list_any (is_at page offset) (all_located spots))
    → i < length spots → s ≡ get_or spots i s → is_around keys (located s.now) ≡ true → is_nested (all_located spots) ≡ true
nested-at keys spots i s same l at around =
    sym (around-is keys (all_located spots) same (all_located spots))
    ∙ in-any (is_around keys) (all_located spots) (located s.now) (in-got (all_located spots) i (located s.now) (located-at spots i s l at)) around

-- the place of one more element is put
pub places-more : (page offset : ℕ) (places : List (ℕ × ℕ)) (spots : List (Bor Spot)) (i : ℕ) (s : Bor Spot) (k : ℕ × ℕ) → i < length spots → s ≡ get_or spots i s
    → is_key page offset k ≡ is_at page offset (located s.now) → list_any (is_key page offset) places ≡ list_any (is_at page offset) (all_located (take i spots))
    → list_any (is_key page offset) (places ++ k ∷ []) ≡ list_any (is_at page offset) (all_located (take (i + 1) spots))
places-more page offset places spots i s k l e same h =
    any-append (is_key page offset) places (k ∷ []) ∙ ap (λ b. b || (is_key page offset k || false)) h
    ∙ ap (λ b. list_any (is_at page offset) (all_located (take i spots)) || (b || false)) same
    ∙ sym (any-append (is_at page offset) (all_located (take i spots)) (located s.now ∷ [])) ∙ ap (list_any (is_at page offset)) (sym (located-take spots i s l e))

-- none of the elements before here is such a one, and so with the next one
pub none-more : (p : Located → Bool) (spots : List (Bor Spot)) (i : ℕ) (s : Bor Spot) → i < length spots → s ≡ get_or spots i s
    → list_any p (all_located (take i spots)) ≡ false → p (located s.now) ≡ false → list_any p (all_located (take (i + 1) spots)) ≡ false
none-more p spots i s l at before here =
    ap (list_any p) (located-take spots i s l at) ∙ any-append p (all_located (take i spots)) (located s.now ∷ [])
    ∙ (λ j. before j || (here j || false))
