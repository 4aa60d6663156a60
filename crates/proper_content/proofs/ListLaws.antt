-- Lists of texts in order: what is among them, and that none stands twice, is told from them as from the list that was sorted.
use Rattle.std.proofs.Common.{◌≡◌, ◌∙◌, ℕ, suc, Bool, true, false, ◌&&◌, ◌||◌, not, List, [], ◌∷◌, ◌++◌, map, sym, ap, subst, refl, arith, add-one, bytes_eq}
use Rattle.std.specs.List.{list_any, list_all}
use Rattle.std.specs.List.Sorted.{IsSorted, IsPermutation}
use Rattle.std.specs.Cmp.{IsTotalOrder}
use Rattle.std.specs.declared.cmp.Ordering.{Ordering}
use Rattle.std.specs.declared.cmp.Ordering.TheVariants.{Less, Equal, Greater}
use Rattle.std.specs.Ordering.{ordering_reverse, on, is_lt, is_gt}
use Rattle.std.proofs.lemmas.Bool.{and_from, and_parts, not-true}
use Rattle.std.proofs.lemmas.List.Sorted.{IsPermutation-map}
use Rattle.std.proofs.lemmas.Slice.Eq.{bytes_eq-Decides}
use Rattle.ix_base.specs.ContextForm.{by_dimension, stand_once}
use Rattle.ix_base.specs.OwnNames.{name_cmp, same_own}
use Rattle.ix_base.specs.declared.content.Dim.{Dim}
use Rattle.ix_base.specs.declared.content.OwnName.{OwnName}
use Rattle.ix_base.specs.SortedLists.{put, put_by, sorted, text_cmp}
use Rattle.ix_base.proofs.ExchangeLemmas.{by_exchanges}
use Rattle.ix_base.proofs.OrderLemmas.{name_total, same_names, text_total, same_text}
use Rattle.ix_base.proofs.SortedLemmas.{sorted-same, sorted-is}
use Rattle.ix_base.specs.WrittenMarkup.{Markup}
use Rattle.instance_lines.specs.Canonical.{line, line_cmp}
use Rattle.instance_lines.specs.Lists.{are_apart, has, is_within, rises, strictly}
use Rattle.instance_lines.specs.Tables.{values_of}
use denote.Ref.{Bor}

-- what a sort of texts leaves
pub sorted_values : (xs ys : List (Bor (List ℕ))) → IsPermutation xs ys → IsSorted (on (λ (t : Bor (List ℕ)). t.now) text_cmp) ys
    → values_of ys ≡ sorted text_cmp (values_of xs)
sorted_values xs ys moved up =
    sym (sorted-same text_total (values_of xs) (values_of ys) (λ x y h k e. same_text x y e) (IsPermutation-map (λ (t : Bor (List ℕ)). t.now) xs ys moved)
    ∙ sorted-is text_total (λ (t : Bor (List ℕ)). t.now) ys up)

-- Among texts in order.

or-comm : (p q r : Bool) → (p || (q || r)) ≡ (q || (p || r))
or-comm true true r = refl
or-comm true false r = refl
or-comm false true r = refl
or-comm false false r = refl

module _ {X : Type 0} (R : X → X → Ordering) (p : X → Bool) where
  any_by : (r : Ordering) (x y : X) (ys behind : List X) → list_any p behind ≡ (p x || list_any p ys)
      → list_any p (put_by r x y ys behind) ≡ (p x || list_any p (y ∷ ys))
  any_by Less x y ys behind h = refl
  any_by Equal x y ys behind h = refl
  any_by Greater x y ys behind h = ap (λ b. p y || b) h ∙ or-comm (p y) (p x) (list_any p ys)

  any-put : (x : X) (ys : List X) → list_any p (put R x ys) ≡ (p x || list_any p ys)
  any-put x [] = refl
  any-put x (y ∷ ys) = any_by (R x y) x y ys (put R x ys) (any-put x ys)

  pub any-sorted : (xs : List X) → list_any p (sorted R xs) ≡ list_any p xs
  unfolding sorted
  any-sorted [] = refl
  any-sorted (x ∷ xs) = any-put x (sorted R xs) ∙ ap (λ b. p x || b) (any-sorted xs)

and-comm : (p q r : Bool) → (p && (q && r)) ≡ (q && (p && r))
and-comm true true r = refl
and-comm true false r = refl
and-comm false true r = refl
and-comm false false r = refl

module _ {X : Type 0} (R : X → X → Ordering) (p : X → Bool) where
  all_by : (r : Ordering) (x y : X) (ys behind : List X) → list_all p behind ≡ (p x && list_all p ys)
      → list_all p (put_by r x y ys behind) ≡ (p x && list_all p (y ∷ ys))
  all_by Less x y ys behind h = refl
  all_by Equal x y ys behind h = refl
  all_by Greater x y ys behind h = ap (λ b. p y && b) h ∙ and-comm (p y) (p x) (list_all p ys)

  all-put : (x : X) (ys : List X) → list_all p (put R x ys) ≡ (p x && list_all p ys)
  all-put x [] = refl
  all-put x (y ∷ ys) = all_by (R x y) x y ys (put R x ys) (all-put x ys)

  pub all-sorted : (xs : List X) → list_all p (sorted R xs) ≡ list_all p xs
  unfolding sorted
  all-sorted [] = refl
  all-sorted (x ∷ xs) = all-put x (sorted R xs) ∙ ap (λ b. p x && b) (all-sorted xs)

pub within_sorted : (xs ys : List (List ℕ)) → is_within xs (sorted text_cmp ys) ≡ is_within xs ys
within_sorted [] ys = refl
within_sorted (x ∷ xs) ys = (λ i. any-sorted text_cmp (λ y. bytes_eq y x) ys i && within_sorted xs ys i)

-- Apart, in whatever order.

pub same_both : (x y : Bool) → (x ≡ true → y ≡ true) → (y ≡ true → x ≡ true) → x ≡ y
same_both true y f g = sym (f refl)
same_both false true f g = g refl
same_both false false f g = refl

apart-comm : (p q r s : Bool) → (not (p || q) && (not r && s)) ≡ (not (p || r) && (not q && s))
apart-comm true q r s = refl
apart-comm false true true s = refl
apart-comm false true false s = refl
apart-comm false false true s = refl
apart-comm false false false s = refl

-- a test that tells whether two are one
pub record IsSame {K : Type 0} (E : K → K → Bool) : Type 0 where
  pub one : (a b : K) → E a b ≡ true → a ≡ b
  pub is : (a b : K) → a ≡ b → E a b ≡ true

module _ {K : Type 0} (E : K → K → Bool) (same : IsSame E) where
  -- none stands twice
  abbrev pub apart : List K → Bool
  apart [] = true
  apart (x ∷ xs) = not (list_any (E x) xs) && apart xs

  same-sym : (a b : K) → E a b ≡ E b a
  same-sym a b = same_both (E a b) (E b a) (λ e. same.is b a (sym (same.one a b e))) (λ e. same.is a b (sym (same.one b a e)))

  any-swap : (t : K → Bool) (front back : List K) (a b : K) → list_any t (front ++ a ∷ b ∷ back) ≡ list_any t (front ++ b ∷ a ∷ back)
  any-swap t [] back a b = or-comm (t a) (t b) (list_any t back)
  any-swap t (x ∷ front) back a b = ap (λ y. t x || y) (any-swap t front back a b)

  apart-swap : (front back : List K) (a b : K) → apart (front ++ a ∷ b ∷ back) ≡ apart (front ++ b ∷ a ∷ back)
  apart-swap [] back a b =
      apart-comm (E a b) (list_any (E a) back) (list_any (E b) back) (apart back)
      ∙ ap (λ p. not (p || list_any (E b) back) && (not (list_any (E a) back) && apart back)) (same-sym a b)
  apart-swap (x ∷ front) back a b =
      ap (λ y. not y && apart (front ++ a ∷ b ∷ back)) (any-swap (E x) front back a b)
      ∙ ap (λ y. not (list_any (E x) (front ++ b ∷ a ∷ back)) && y) (apart-swap front back a b)

  pub apart_moved : (xs ys : List K) → IsPermutation xs ys → apart xs ≡ apart ys
  apart_moved xs ys h = by_exchanges (λ l. apart xs ≡ apart l) (λ front back a b c. c ∙ apart-swap front back a b) xs ys h refl

  module _ {R : K → K → Ordering} (o : IsTotalOrder R) (tie : (a b : K) → R a b ≡ Equal → a ≡ b) where
    -- none is less than the one before it
    abbrev pub Up : List K → Type 0
    Up [] = Unit {0}
    Up (n ∷ []) = Unit {0}
    Up (n ∷ m ∷ ns) = (is_lt (R m n) ≡ false) × Up (m ∷ ns)

    less-apart : (n m : K) → R n m ≡ Less → E n m ≡ false
    less-apart n m e = by_test (E n m) refl where
      by_test : (b : Bool) → E n m ≡ b → E n m ≡ false
      by_test true t =
          let here : R n n ≡ Less = subst (λ x. R n x ≡ Less) (sym (same.one n m t)) e in
          let back : R n n ≡ ordering_reverse (R n n) = o.antisymm n n in
          let f : Less ≡ Greater = sym here ∙ back ∙ ap ordering_reverse here in cc
      by_test false t = t

    -- what is below one is below what follows it
    on-past : (n m k : K) → R n m ≡ Less → is_lt (R k m) ≡ false → R n k ≡ Less
    on-past n m k e h = by_cmp (R m k) refl where
      by_cmp : (r : Ordering) → R m k ≡ r → R n k ≡ Less
      by_cmp Less q = o.trans n m k e q
      by_cmp Equal q = subst (λ x. R n x ≡ Less) (tie m k q) e
      by_cmp Greater q = let f : true ≡ false = sym (ap is_lt (o.antisymm k m ∙ ap ordering_reverse q)) ∙ h in cc

    none-later : (n m : K) (ns : List K) → Up (m ∷ ns) → R n m ≡ Less → list_any (E n) (m ∷ ns) ≡ false
    none-later n m [] up e = rw (less-apart n m e) refl
    none-later n m (k ∷ ns) up e = rw (less-apart n m e) (none-later n k ns up.1 (on-past n m k e up.0))

    first-apart : (n m : K) (ns : List K) → Up (n ∷ m ∷ ns) → not (list_any (E n) (m ∷ ns)) ≡ is_lt (R n m)
    first-apart n m ns up = by_cmp (R n m) refl where
      by_cmp : (r : Ordering) → R n m ≡ r → not (list_any (E n) (m ∷ ns)) ≡ is_lt (R n m)
      by_cmp Less q = ap not (none-later n m ns up.1 q) ∙ sym (ap is_lt q)
      by_cmp Equal q = rw (same.is n m (tie n m q), q) refl
      by_cmp Greater q = let f : true ≡ false = sym (ap is_lt (o.antisymm m n ∙ ap ordering_reverse q)) ∙ up.0 in cc

    -- in order they stand apart exactly where they rise
    pub apart-rise : (ns : List K) → Up ns → apart ns ≡ strictly R ns
    apart-rise [] up = refl
    apart-rise (n ∷ []) up = refl
    apart-rise (n ∷ m ∷ ns) up =
        ap (λ b. b && apart (m ∷ ns)) (first-apart n m ns up) ∙ ap (λ b. is_lt (R n m) && b) (apart-rise (m ∷ ns) up.1)

    up-sorted : {X : Type 0} (f : X → K) (xs : List X) → IsSorted (on f R) xs → Up (map f xs)
    up-sorted f [] up = tt
    up-sorted f (x ∷ []) up = tt
    up-sorted f (x ∷ y ∷ xs) up = (
      up 0 x (omega arith) (omega arith),
      up-sorted f (y ∷ xs) (λ k d low high. rw (add-one k) (rw (add-one (suc k)) at (up (suc k) d (omega arith) (omega arith)))),
    )

    -- they stand apart exactly where they rise once they are sorted
    pub rise_sorted : {X : Type 0} (f : X → K) (xs ys : List X) → IsPermutation xs ys → IsSorted (on f R) ys → strictly R (map f ys) ≡ apart (map f xs)
    rise_sorted f xs ys moved up =
        sym (apart_moved (map f xs) (map f ys) (IsPermutation-map f xs ys moved) ∙ apart-rise (map f ys) (up-sorted f ys up))

    not-less : (n m : K) → is_gt (R n m) ≡ false → is_lt (R m n) ≡ false
    not-less n m h = by_cmp (R n m) refl where
      by_cmp : (r : Ordering) → R n m ≡ r → is_lt (R m n) ≡ false
      by_cmp Less q = ap is_lt (o.antisymm m n ∙ ap ordering_reverse q)
      by_cmp Equal q = ap is_lt (o.antisymm m n ∙ ap ordering_reverse q)
      by_cmp Greater q = let f : true ≡ false = sym (ap is_gt q) ∙ h in cc

    up-rises : (ns : List K) → rises R ns ≡ true → Up ns
    up-rises [] h = tt
    up-rises (n ∷ []) h = tt
    up-rises (n ∷ m ∷ ns) h =
        let p = and_parts (not (is_gt (R n m))) (rises R (m ∷ ns)) h in (not-less n m (not-true (is_gt (R n m)) p.0), up-rises (m ∷ ns) p.1)

    lt-past : (r : Ordering) → is_lt r ≡ true → not (is_gt r) ≡ true
    lt-past Less h = refl
    lt-past Equal h = refl
    lt-past Greater h = h

    strictly-rises : (ns : List K) → strictly R ns ≡ true → rises R ns ≡ true
    strictly-rises [] h = refl
    strictly-rises (n ∷ []) h = refl
    strictly-rises (n ∷ m ∷ ns) h =
        let p = and_parts (is_lt (R n m)) (strictly R (m ∷ ns)) h in
        and_from (not (is_gt (R n m))) (rises R (m ∷ ns)) (lt-past (R n m) p.0) (strictly-rises (m ∷ ns) p.1)

    -- they rise exactly where they don't fall and stand apart
    pub strictly-both : (ns : List K) → strictly R ns ≡ (apart ns && rises R ns)
    strictly-both ns = same_both (strictly R ns) (apart ns && rises R ns)
        (λ h. let up = strictly-rises ns h in and_from (apart ns) (rises R ns) (apart-rise ns (up-rises ns up) ∙ h) up)
        (λ h. let p = and_parts (apart ns) (rises R ns) h in sym (apart-rise ns (up-rises ns p.1)) ∙ p.0)

-- Texts apart.

pub one-text : IsSame bytes_eq
one-text = record { one = λ a b e. (bytes_eq-Decides a b).0 e; is = λ a b e. (bytes_eq-Decides a b).1 e }

apart-is : (xs : List (List ℕ)) → apart bytes_eq one-text xs ≡ are_apart xs
apart-is [] = refl
apart-is (x ∷ xs) = ap (λ b. not (list_any (bytes_eq x) xs) && b) (apart-is xs)

pub apart_sorted : (xs ys : List (Bor (List ℕ))) → IsPermutation xs ys → IsSorted (on (λ (t : Bor (List ℕ)). t.now) text_cmp) ys
    → strictly text_cmp (values_of ys) ≡ are_apart (values_of xs)
apart_sorted xs ys moved up = rise_sorted bytes_eq one-text text_total same_text (λ (t : Bor (List ℕ)). t.now) xs ys moved up ∙ apart-is (values_of xs)

pub texts_apart_moved : (xs ys : List (List ℕ)) → IsPermutation xs ys → are_apart xs ≡ are_apart ys
texts_apart_moved xs ys moved = sym (apart-is xs) ∙ apart_moved bytes_eq one-text xs ys moved ∙ apart-is ys

-- Names apart.

pub one-name : IsSame same_own
one-name = record {
  one = λ a b e. (
      let s = and_parts (bytes_eq a.ns b.ns) (bytes_eq a.local b.local) e in
      let ns = (bytes_eq-Decides a.ns b.ns).0 s.0 in
      let local = (bytes_eq-Decides a.local b.local).0 s.1 in
      λ i. record { ns = ns i; local = local i });
  is = λ a b e. subst (λ x. same_own a x ≡ true) e (and_from _ _ ((bytes_eq-Decides a.ns a.ns).1 refl) ((bytes_eq-Decides a.local a.local).1 refl));
}

once-is : (ns : List OwnName) → apart same_own one-name ns ≡ stand_once ns
once-is [] = refl
once-is (n ∷ ns) = ap (λ b. not (list_any (same_own n) ns) && b) (once-is ns)

-- The order of what is made of others.

pub strictly_map : {X Y : Type 0} (f : X → Y) (R : Y → Y → Ordering) (xs : List X) → strictly R (map f xs) ≡ strictly (on f R) xs
strictly_map f R [] = refl
strictly_map f R (x ∷ []) = refl
strictly_map f R (x ∷ y ∷ ys) = ap (λ b. is_lt (R (f x) (f y)) && b) (strictly_map f R (y ∷ ys))

pub rises_map : {X Y : Type 0} (f : X → Y) (R : Y → Y → Ordering) (xs : List X) → rises R (map f xs) ≡ rises (on f R) xs
rises_map f R [] = refl
rises_map f R (x ∷ []) = refl
rises_map f R (x ∷ y ∷ ys) = ap (λ b. not (is_gt (R (f x) (f y))) && b) (rises_map f R (y ∷ ys))

-- Tests of each of some texts.

pub all_values : (p : List ℕ → Bool) (xs : List (Bor (List ℕ))) → list_all p (values_of xs) ≡ list_all (λ x. p x.now) xs
all_values p [] = refl
all_values p (x ∷ xs) = ap (λ b. p x.now && b) (all_values p xs)

pub dims_once : (ds : List Dim) → strictly by_dimension ds ≡ (stand_once (map (λ d. d.dimension) ds) && rises by_dimension ds)
dims_once ds =
    let names = map (λ (d : Dim). d.dimension) ds in
    sym (strictly_map (λ (d : Dim). d.dimension) name_cmp ds) ∙ strictly-both same_own one-name name_total same_names names
    ∙ ap (λ b. b && rises name_cmp names) (once-is names) ∙ ap (λ b. stand_once names && b) (rises_map (λ (d : Dim). d.dimension) name_cmp ds)

all-within : (zs xs : List (List ℕ)) → is_within (sorted text_cmp xs) zs ≡ is_within xs zs
all-within zs xs = all-sorted text_cmp (has zs) xs

-- both in order
pub within_both : (xs ys : List (List ℕ)) → is_within (sorted text_cmp xs) (sorted text_cmp ys) ≡ is_within xs ys
within_both xs ys = all-within (sorted text_cmp ys) xs ∙ within_sorted xs ys

-- Lines.

pub map_same : {X : Type 0} (xs : List X) → map (λ (x : X). x) xs ≡ xs
map_same [] = refl
map_same (x ∷ xs) = ap (λ l. x ∷ l) (map_same xs)

map-map : {X Y Z : Type 0} (f : X → Y) (g : Y → Z) (xs : List X) → map g (map f xs) ≡ map (λ x. g (f x)) xs
map-map f g [] = refl
map-map f g (x ∷ xs) = ap (λ l. g (f x) ∷ l) (map-map f g xs)

pub lines_rise : {X : Type 0} (f : X → Markup) (xs : List X) (lines : List (List ℕ)) → lines ≡ map (λ x. line (f x)) xs
    → strictly text_cmp (map (λ t. t) lines) ≡ strictly line_cmp (map f xs)
lines_rise f xs lines e =
    ap (strictly text_cmp) (map_same lines ∙ e ∙ sym (map-map f line xs)) ∙ strictly_map line text_cmp (map f xs)

pub lines_never_fall : (ms : List Markup) (lines : List (List ℕ)) → lines ≡ map line ms → rises text_cmp (map (λ t. t) lines) ≡ rises line_cmp ms
lines_never_fall ms lines e = ap (rises text_cmp) (map_same lines ∙ e) ∙ rises_map line text_cmp ms

pub texts_rise : {X : Type 0} (f : X → List ℕ) (xs : List X) (texts : List (List ℕ)) → texts ≡ map f xs
    → strictly text_cmp (map (λ t. t) texts) ≡ strictly (on f text_cmp) xs
texts_rise f xs texts e = ap (strictly text_cmp) (map_same texts ∙ e) ∙ strictly_map f text_cmp xs
