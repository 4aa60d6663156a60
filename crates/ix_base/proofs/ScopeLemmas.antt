-- Scopes in order: how a prefix is found in one.
use Rattle.std.proofs.Common.{◌≡◌, ℕ, zero, suc, ◌<◌, ◌≤◌, Bool, true, false, ◌&&◌, List, [], ◌∷◌, length, map, get_or, Some, None, refl, sym, ap, ◌∙◌, arith, bytes_eq, Ordering, Less, Equal, Greater}
use Rattle.std.specs.List.{list_all}
use Rattle.std.specs.Ordering.{nat_cmp, is_lt, is_eq, ordering_reverse}
use Rattle.std.specs.Cmp.Lexicographic.{slice_cmp}
use Rattle.std.proofs.lemmas.Bool.{and_parts}
use Rattle.std.proofs.lemmas.Slice.Eq.{bytes_eq-Decides}
use Rattle.std.proofs.lemmas.Cmp.{nat_list_cmp_total}
use Rattle.std.proofs.lemmas.Map.Text.{is_eq-slice_cmp}
use Rattle.std.proofs.Math.ListN.{get_or-map}
use Rattle.std.proofs.lemmas.List.{length-map}
use Rattle.ix_base.specs.declared.tree.Binding.{Binding}
use Rattle.ix_base.specs.Bindings.{Bound, bound, is_below, are_ordered, place_of, has_at}
use Rattle.ix_base.specs.Scope.{namespace_of}

pub clash : {A : Type 0} (b : Bool) → b ≡ true → b ≡ false → A
clash b t f = let z : true ≡ false = sym t ∙ f in absurd (cc)

pub and_left : (a b : Bool) → (a && b) ≡ true → a ≡ true
and_left a b h = (and_parts a b h).0

pub and_right : (a b : Bool) → (a && b) ≡ true → b ≡ true
and_right a b h = (and_parts a b h).1

less-is : (o : Ordering) → is_lt o ≡ true → o ≡ Less
less-is Less h = refl
less-is Equal h = absurd (cc)
less-is Greater h = absurd (cc)

pub below-trans : (p q r : List ℕ) → is_below p q ≡ true → is_below q r ≡ true → is_below p r ≡ true
below-trans p q r a b = ap is_lt (nat_list_cmp_total.trans p q r (less-is (slice_cmp nat_cmp p q) a) (less-is (slice_cmp nat_cmp q r) b))

pub below-apart : (p q : List ℕ) → is_below p q ≡ true → bytes_eq p q ≡ false
below-apart p q a = sym (is_eq-slice_cmp p q) ∙ ap is_eq (less-is (slice_cmp nat_cmp p q) a)

pub below-back : (p q : List ℕ) → is_below p q ≡ true → is_below q p ≡ false
below-back p q a = ap is_lt (nat_list_cmp_total.antisymm q p ∙ ap ordering_reverse (less-is (slice_cmp nat_cmp p q) a))

pub same-order : (p q : List ℕ) → bytes_eq p q ≡ bytes_eq q p
same-order p q = sym (is_eq-slice_cmp p q) ∙ ap is_eq (nat_list_cmp_total.antisymm p q) ∙ reversed (slice_cmp nat_cmp q p) ∙ is_eq-slice_cmp q p where
  reversed : (o : Ordering) → is_eq (ordering_reverse o) ≡ is_eq o
  reversed Less = refl
  reversed Equal = refl
  reversed Greater = refl

-- texts that are neither equal nor the one before the other
pub either-below : (p q : List ℕ) → bytes_eq q p ≡ false → is_below p q ≡ false → is_below q p ≡ true
either-below p q e l = by_order (slice_cmp nat_cmp p q) refl where
  by_order : (o : Ordering) → slice_cmp nat_cmp p q ≡ o → is_below q p ≡ true
  by_order Less h = clash (is_below p q) (ap is_lt h) l
  by_order Equal h =
      clash (bytes_eq q p) (sym (is_eq-slice_cmp q p) ∙ ap is_eq (nat_list_cmp_total.antisymm q p ∙ ap ordering_reverse h)) e
  by_order Greater h = ap is_lt (nat_list_cmp_total.antisymm q p ∙ ap ordering_reverse h)

pub below-self : (p : List ℕ) → is_below p p ≡ false
below-self p = by_test (is_below p p) refl where
  by_test : (b : Bool) → is_below p p ≡ b → b ≡ false
  by_test true h = clash (bytes_eq p p) ((bytes_eq-Decides p p).1 refl) (below-apart p p h)
  by_test false h = refl

pub all-behind : (p q : List ℕ) (s : List Bound) → is_below p q ≡ true → list_all (λ x. is_below q x.prefix) s ≡ true → list_all (λ x. is_below p x.prefix) s ≡ true
all-behind p q [] l h = refl
all-behind p q (x ∷ s) l h =
    rw (
      below-trans p q x.prefix l (and_left (is_below q x.prefix) (list_all (λ y. is_below q y.prefix) s) h),
      all-behind p q s l (and_right (is_below q x.prefix) (list_all (λ y. is_below q y.prefix) s) h),
    ) refl

pub head-order : (x : Bound) (s : List Bound) → are_ordered (x ∷ s) ≡ true → list_all (λ y. is_below x.prefix y.prefix) s ≡ true
head-order x s h = and_left (list_all (λ y. is_below x.prefix y.prefix) s) (are_ordered s) h

pub tail-order : (x : Bound) (s : List Bound) → are_ordered (x ∷ s) ≡ true → are_ordered s ≡ true
tail-order x s h = and_right (list_all (λ y. is_below x.prefix y.prefix) s) (are_ordered s) h

-- a prefix before all has no binding
pub none-before : (p : List ℕ) (s : List Bound) → list_all (λ x. is_below p x.prefix) s ≡ true → namespace_of s p ≡ None
none-before p [] h = refl
none-before p (x ∷ s) h =
    let apart : bytes_eq x.prefix p ≡ false = same-order x.prefix p ∙ below-apart p x.prefix (and_left (is_below p x.prefix) (list_all (λ y. is_below p y.prefix) s) h) in
    rw apart (none-before p s (and_right (is_below p x.prefix) (list_all (λ y. is_below p y.prefix) s) h))

-- what stands at a prefix's place
pub found-at : (s : List Bound) (p : List ℕ) (d : Bound) → has_at s (place_of s p) p ≡ true → namespace_of s p ≡ Some (get_or s (place_of s p) d).ns
found-at [] p d h = absurd (cc)
found-at (x ∷ s) p d h = by_tests (λ q. found-at s p d q) (bytes_eq x.prefix p) (is_below p x.prefix) refl refl where
  by_tests : (has_at s (place_of s p) p ≡ true → namespace_of s p ≡ Some (get_or s (place_of s p) d).ns) → (e l : Bool) → bytes_eq x.prefix p ≡ e → is_below p x.prefix ≡ l
      → namespace_of (x ∷ s) p ≡ Some (get_or (x ∷ s) (place_of (x ∷ s) p) d).ns
  by_tests ih true l a b = rw a refl
  by_tests ih false true a b = let z : bytes_eq x.prefix p ≡ true = rw (a, b) at h in clash (bytes_eq x.prefix p) z a
  by_tests ih false false a b = rw (a, b) (ih (rw (a, b) at h))

pub missed-at : (s : List Bound) (p : List ℕ) → are_ordered s ≡ true → has_at s (place_of s p) p ≡ false → namespace_of s p ≡ None
missed-at [] p o h = refl
missed-at (x ∷ s) p o h = by_tests (λ q. missed-at s p (tail-order x s o) q) (bytes_eq x.prefix p) (is_below p x.prefix) refl refl where
  by_tests : (has_at s (place_of s p) p ≡ false → namespace_of s p ≡ None) → (e l : Bool) → bytes_eq x.prefix p ≡ e → is_below p x.prefix ≡ l → namespace_of (x ∷ s) p ≡ None
  by_tests ih true l a b = let z : bytes_eq x.prefix p ≡ false = rw a at h in clash (bytes_eq x.prefix p) a z
  by_tests ih false true a b = rw a (none-before p s (all-behind p x.prefix s b (head-order x s o)))
  by_tests ih false false a b = rw a (ih (rw (a, b) at h))

-- a prefix's place is behind each binding that comes before it, and not behind any other
pub place-behind : (s : List Bound) (p : List ℕ) (i : ℕ) (d : Bound) → are_ordered s ≡ true → i < length s → is_below (get_or s i d).prefix p ≡ true → i < place_of s p
place-behind [] p i d o l h = absurd (omega arith)
place-behind (x ∷ s) p zero d o l h =
    let a : bytes_eq x.prefix p ≡ false = below-apart x.prefix p h in let b : is_below p x.prefix ≡ false = below-back x.prefix p h in rw (a, b) (omega arith)
place-behind (x ∷ s) p (suc i) d o l h =
    let below : is_below x.prefix p ≡ true = below-trans x.prefix (get_or s i d).prefix p (nth s i (omega arith) (head-order x s o)) h in
    let a : bytes_eq x.prefix p ≡ false = below-apart x.prefix p below in
    let b : is_below p x.prefix ≡ false = below-back x.prefix p below in
    let more : i < place_of s p = place-behind s p i d (tail-order x s o) (omega arith) h in rw (a, b) (omega arith) where
      nth : (t : List Bound) (j : ℕ) → j < length t → list_all (λ y. is_below x.prefix y.prefix) t ≡ true → is_below x.prefix (get_or t j d).prefix ≡ true
      nth [] j m q = absurd (omega arith)
      nth (y ∷ t) zero m q = and_left (is_below x.prefix y.prefix) (list_all (λ z. is_below x.prefix z.prefix) t) q
      nth (y ∷ t) (suc j) m q = nth t j (omega arith) (and_right (is_below x.prefix y.prefix) (list_all (λ z. is_below x.prefix z.prefix) t) q)

pub place-within : (s : List Bound) (p : List ℕ) (i : ℕ) (d : Bound) → i < length s → is_below (get_or s i d).prefix p ≡ false → place_of s p ≤ i
place-within [] p i d l h = absurd (omega arith)
place-within (x ∷ s) p i d l h = by_tests (λ j m q. place-within s p j d m q) i l h (bytes_eq x.prefix p) (is_below p x.prefix) refl refl where
  by_tests : ((j : ℕ) → j < length s → is_below (get_or s j d).prefix p ≡ false → place_of s p ≤ j) → (j : ℕ) → j < length (x ∷ s) → is_below (get_or (x ∷ s) j d).prefix p ≡ false → (e b : Bool) → bytes_eq x.prefix p ≡ e → is_below p x.prefix ≡ b → place_of (x ∷ s) p ≤ j
  by_tests ih j m q true b a c = rw a (omega arith)
  by_tests ih j m q false true a c = rw (a, c) (omega arith)
  by_tests ih zero m q false false a c = clash (is_below x.prefix p) (either-below p x.prefix a c) q
  by_tests ih (suc j) m q false false a c = let more : place_of s p ≤ j = ih j (omega arith) q in rw (a, c) (omega arith)

pub place-length : (s : List Bound) (p : List ℕ) → place_of s p ≤ length s
place-length [] p = omega arith
place-length (x ∷ s) p = by_tests (place-length s p) (bytes_eq x.prefix p) (is_below p x.prefix) refl refl where
  by_tests : place_of s p ≤ length s → (e b : Bool) → bytes_eq x.prefix p ≡ e → is_below p x.prefix ≡ b → place_of (x ∷ s) p ≤ length (x ∷ s)
  by_tests ih true b a c = rw a (omega arith)
  by_tests ih false true a c = rw (a, c) (omega arith)
  by_tests ih false false a c = rw (a, c) (omega arith)

-- one step of the halving
module _ (xs : List Binding) (p : List ℕ) (i : ℕ) (d : Binding) (l : i < length xs) where
  pub half-behind : are_ordered (map bound xs) ≡ true → is_below (get_or xs i d).prefix.now p ≡ true → i < place_of (map bound xs) p
  half-behind o h =
      let at : (bound (get_or xs i d)) ≡ get_or (map bound xs) i (bound d) = sym (get_or-map bound xs i d) in
      place-behind (map bound xs) p i (bound d) o (omega (arith, length-map xs bound)) (ap (λ b. is_below b.prefix p) (sym at) ∙ h)

  pub half-within : is_below (get_or xs i d).prefix.now p ≡ false → place_of (map bound xs) p ≤ i
  half-within h =
      let at : (bound (get_or xs i d)) ≡ get_or (map bound xs) i (bound d) = sym (get_or-map bound xs i d) in
      place-within (map bound xs) p i (bound d) (omega (arith, length-map xs bound)) (ap (λ b. is_below b.prefix p) (sym at) ∙ h)

pub place-scope : (xs : List Binding) (p : List ℕ) → place_of (map bound xs) p ≤ length xs
place-scope xs p = omega (arith, place-length (map bound xs) p, length-map xs bound)

-- what the code finds
found-scope : (xs : List Binding) (p : List ℕ) (d : Binding) → has_at (map bound xs) (place_of (map bound xs) p) p ≡ true
    → Some (get_or xs (place_of (map bound xs) p) d).ns.now ≡ namespace_of (map bound xs) p
found-scope xs p d h =
    ap (λ b. Some b.ns) (sym (get_or-map bound xs (place_of (map bound xs) p) d)) ∙ sym (found-at (map bound xs) p (bound d) h)

pub found-code : (xs : List Binding) (p : List ℕ) (at : ℕ) (d : Binding) → at ≡ place_of (map bound xs) p → has_at (map bound xs) at p ≡ true
    → Some (get_or xs at d).ns.now ≡ namespace_of (map bound xs) p
found-code xs p at d e h =
    ap (λ n. Some (get_or xs n d).ns.now) e ∙ found-scope xs p d (ap (λ n. has_at (map bound xs) n p) (sym e) ∙ h)

-- what stands at an index
pub has_at-index : (xs : List Binding) (at : ℕ) (p : List ℕ) (d : Binding) → at < length xs → has_at (map bound xs) at p ≡ bytes_eq (bound (get_or xs at d)).prefix p
has_at-index [] at p d h = absurd (omega arith)
has_at-index (x ∷ xs) zero p d h = refl
has_at-index (x ∷ xs) (suc at) p d h = has_at-index xs at p d (omega arith)

pub has_at-end : (xs : List Binding) (p : List ℕ) → has_at (map bound xs) (length xs) p ≡ false
has_at-end [] p = refl
has_at-end (x ∷ xs) p = has_at-end xs p
