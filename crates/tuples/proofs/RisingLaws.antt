-- Where no rule on orders is broken, members stand in strict order.
use Rattle.std.proofs.Common.{◌≡◌, ◌≢◌, ◌∙◌, ℕ, suc, Bool, true, false, cond, List, [], ◌∷◌, ◌++◌, length, refl, ap, sym, subst, Option, Some, None, is_some, append_assoc, arith}
use Rattle.std.proofs.lemmas.Bool.Decides.{nat_tests}
use Rattle.std.proofs.lemmas.List.Elements.{All-cons, All-head, All-nil, All-tail, All-weaker}
use Rattle.std.proofs.lemmas.List.Kept.{AllPairs-cons}
use Rattle.std.specs.Cmp.{IsTotalOrder}
use Rattle.std.specs.List.{All, AllPairs, filter, flat_map}
use Rattle.std.specs.Option.{option_map_or}
use Rattle.std.specs.Ordering.{is_eq, on, ordering_reverse}
use Rattle.std.specs.Prelude.{⊤, ◌&&◌, ◌==◌, is_none, nat_lt}
use Rattle.std.specs.declared.cmp.Ordering.{Ordering}
use Rattle.std.specs.declared.cmp.Ordering.TheVariants.{Less, Equal, Greater}
use Rattle.ix_base.specs.declared.breach.Found.{Found}
use Rattle.ix_base.specs.declared.rule.Rule.{Rule}
use Rattle.ix_base.specs.declared.rule.Rule.TheVariants.{L12, L13}
use Rattle.ix_base.specs.Asks.{Asks, asks}
use Rattle.ix_base.specs.LinkRules.{are_siblings, breaking, breaks_link, broken_at, same_order, ties}
use Rattle.ix_base.specs.LocatedElements.{Located, is_fact, offset_of, same_place}
use Rattle.ix_base.specs.Membership.{is_owned_by, members, order_of, owner}
use Rattle.ix_base.specs.Orders.{decimal_cmp, order_cmp, same_decimal}
use Rattle.ix_base.specs.Rows.{row}
use Rattle.ix_base.specs.SortedLists.{put, put_by, sorted}
use Rattle.tuples.specs.StrictOrder.{RiseStrictly}
use Rattle.tuples.proofs.OrderLaws.{decimal_total, order_total}

module _ {X : Type 0} (R : X → X → Ordering) (o : IsTotalOrder R) where
  abbrev Below : X → X → Type 0
  Below x y = R x y ≡ Less

  abbrev Rises : List X → Type 0
  Rises [] = ⊤
  Rises (x ∷ xs) = All (Below x) xs × Rises xs

  abbrev Apart : List X → Type 0
  Apart [] = ⊤
  Apart (x ∷ xs) = All (λ y. R x y ≢ Equal) xs × Apart xs

  all-put_by : (P : X → Type 0) (r : Ordering) (x y : X) (ys more : List X) → P x → All P (y ∷ ys) → All P more → All P (put_by r x y ys more)
  all-put_by P Less x y ys more p h m = All-cons P x (y ∷ ys) p h
  all-put_by P Equal x y ys more p h m = All-cons P x (y ∷ ys) p h
  all-put_by P Greater x y ys more p h m = All-cons P y more (All-head P y ys h) m

  all-put : (P : X → Type 0) (x : X) (ys : List X) → P x → All P ys → All P (put R x ys)
  all-put P x [] p h = All-cons P x [] p h
  all-put P x (y ∷ ys) p h = all-put_by P (R x y) x y ys (put R x ys) p h (all-put P x ys p (All-tail P y ys h))

  put-rises : (x : X) (ys : List X) → All (λ y. R x y ≢ Equal) ys → Rises ys → Rises (put R x ys)
  put-rises x [] d h = (All-nil (Below x), tt)
  put-rises x (y ∷ ys) d h = by (R x y) refl (put-rises x ys (All-tail (λ y. R x y ≢ Equal) y ys d) h.1) where
    by : (r : Ordering) → R x y ≡ r → Rises (put R x ys) → Rises (put_by r x y ys (put R x ys))
    by Less e rest = (All-cons (Below x) y ys e (All-weaker (Below y) (Below x) (λ z k. o.trans x y z e k) ys h.0), h)
    by Equal e rest = absurd (All-head (λ y. R x y ≢ Equal) y ys d e)
    by Greater e rest = (all-put (Below y) x ys (o.antisymm y x ∙ ap ordering_reverse e) h.0, rest)

  all-sorted : (P : X → Type 0) (xs : List X) → All P xs → All P (sorted R xs)
  unfolding sorted
  all-sorted P [] h = h
  all-sorted P (x ∷ xs) h = all-put P x (sorted R xs) (All-head P x xs h) (all-sorted P xs (All-tail P x xs h))

  sorted-rises : (xs : List X) → Apart xs → Rises (sorted R xs)
  unfolding sorted
  sorted-rises [] h = tt
  sorted-rises (x ∷ xs) h = put-rises x (sorted R xs) (all-sorted (λ y. R x y ≢ Equal) xs h.0) (sorted-rises xs h.1)

  pairs : (xs : List X) → Rises xs → AllPairs Below xs
  pairs [] h = λ i j d l k. absurd (omega (arith, k))
  pairs (x ∷ xs) h = AllPairs-cons Below x xs h.0 (pairs xs h.1)

-- nothing is found: the rule is broken nowhere
row-none : (b : Bool) (f : Found) → row b f ≡ [] → b ≡ false
row-none true f h = absurd (cc)
row-none false f h = refl

none-left : {X : Type 0} (xs ys : List X) → xs ++ ys ≡ [] → xs ≡ []
none-left [] ys h = refl
none-left (x ∷ xs) ys h = absurd (cc)

none-right : {X : Type 0} (xs ys : List X) → xs ++ ys ≡ [] → ys ≡ []
none-right [] ys h = h
none-right (x ∷ xs) ys h = absurd (cc)

unbroken : (a : Asks Located) (k : Rule) (es : List Located) → flat_map (broken_at a k) es ≡ [] → All (λ e. breaks_link a e k ≡ false) es
unbroken a k [] h = All-nil (λ e. breaks_link a e k ≡ false)
unbroken a k (e ∷ es) h =
    All-cons (λ e. breaks_link a e k ≡ false) e es (row-none (breaks_link a e k) _ (none-left (broken_at a k e) (flat_map (broken_at a k) es) h))
    (unbroken a k es (none-right (broken_at a k e) (flat_map (broken_at a k) es) h))

-- one that passes a test that at most one passes: none behind it does
many : (n : ℕ) → nat_lt 1 (suc (suc n)) ≡ true
many n = grind (arith, nat_tests)

behind-none : {X : Type 0} (q : X → Bool) (xs : List X) → nat_lt 1 (suc (length (filter q xs))) ≡ false → All (λ y. q y ≡ false) xs
behind-none q [] h = All-nil (λ y. q y ≡ false)
behind-none q (x ∷ xs) h = by (q x) refl (behind-none q xs) where
  by : (b : Bool) → q x ≡ b → (nat_lt 1 (suc (length (filter q xs))) ≡ false → All (λ y. q y ≡ false) xs) → All (λ y. q y ≡ false) (x ∷ xs)
  by true e rest = absurd (let z : true ≡ false = sym (many (length (filter q xs))) ∙ sym (ap (λ b. nat_lt 1 (suc (length (cond b (x ∷ filter q xs) (filter q xs))))) e) ∙ h in cc)
  by false e rest = All-cons (λ y. q y ≡ false) x xs e (rest (ap (λ b. nat_lt 1 (suc (length (cond b (x ∷ filter q xs) (filter q xs))))) (sym e) ∙ h))

fewer : (n : ℕ) → nat_lt 1 (suc n) ≡ false → nat_lt 1 n ≡ false
fewer n h = grind (arith, nat_tests)

behind-one : {X : Type 0} (q : X → Bool) (front : List X) (x : X) (back : List X) → nat_lt 1 (length (filter q (front ++ x ∷ back))) ≡ false → q x ≡ true
    → All (λ y. q y ≡ false) back
behind-one q [] x back h e = behind-none q back (ap (λ b. nat_lt 1 (length (cond b (x ∷ filter q back) (filter q back)))) (sym e) ∙ h)
behind-one q (y ∷ front) x back h e = behind-one q front x back (by (q y) h) e where
  by : (b : Bool) → nat_lt 1 (length (cond b (y ∷ filter q (front ++ x ∷ back)) (filter q (front ++ x ∷ back)))) ≡ false
      → nat_lt 1 (length (filter q (front ++ x ∷ back))) ≡ false
  by true k = fewer (length (filter q (front ++ x ∷ back))) k
  by false k = k

both : (b c : Bool) → (b && c) ≡ true → (b ≡ true) × (c ≡ true)
both true true h = (refl, refl)
both true false h = absurd (cc)
both false c h = absurd (cc)

joined : (m n p : ℕ) → (m == n) ≡ true → (m == p) ≡ true → (n == p) ≡ true
joined m n p h k = grind (arith, nat_tests)

same-self : (n : List ℕ) → same_decimal n n ≡ true
same-self n = by (decimal_cmp n n) refl where
  by : (r : Ordering) → decimal_cmp n n ≡ r → is_eq (decimal_cmp n n) ≡ true
  by Less e = absurd (let z : Less ≡ Greater = sym e ∙ decimal_total.antisymm n n ∙ ap ordering_reverse e in cc)
  by Equal e = ap is_eq e
  by Greater e = absurd (let z : Greater ≡ Less = sym e ∙ decimal_total.antisymm n n ∙ ap ordering_reverse e in cc)

apart-by : (x y : Option (List ℕ)) → is_some x ≡ true → option_map_or (λ n. option_map_or (same_decimal n) y false) x false ≡ false → order_cmp x y ≢ Equal
apart-by (Some n) (Some m) h k = λ e. absurd (let z : true ≡ false = sym (ap is_eq e) ∙ k in cc)
apart-by (Some n) None h k = λ e. absurd (cc)
apart-by None y h k = absurd (cc)

own-order : (x : Option (List ℕ)) → is_some x ≡ true → option_map_or (λ n. option_map_or (same_decimal n) x false) x false ≡ true
own-order (Some n) h = same-self n
own-order None h = absurd (cc)

module _ (a : Asks Located) (t : Located) where
  abbrev owned : Located → Bool
  owned = is_owned_by a t

  same-owner : (o p : Option Located) → option_map_or (same_place t) o false ≡ true → option_map_or (same_place t) p false ≡ true
      → option_map_or (λ x. option_map_or (same_place x) p false) o false ≡ true
  same-owner (Some x) (Some y) h k =
      let m = both (t.page == x.page) (offset_of t == offset_of x) h in
      let n = both (t.page == y.page) (offset_of t == offset_of y) k in
      let pages = joined t.page x.page y.page m.0 n.0 in
      let offsets = joined (offset_of t) (offset_of x) (offset_of y) m.1 n.1 in
      λ i. pages i && offsets i
  same-owner (Some x) None h k = absurd (cc)
  same-owner None p h k = absurd (cc)

  has-owner : (o : Option Located) → option_map_or (same_place t) o false ≡ true → is_some o ≡ true
  has-owner (Some x) h = refl
  has-owner None h = absurd (cc)

  order-there : (f s : Bool) (o : Option (List ℕ)) → f ≡ true → s ≡ true → (f && s && is_none o) ≡ false → is_some o ≡ true
  order-there f s (Some n) e g h = refl
  order-there f s None e g h = absurd (let z : true ≡ false = (λ i. sym e i && sym g i && true) ∙ h in cc)

  -- a member has an order
  has-order : (f : Located) → owned f ≡ true → breaks_link a f L13 ≡ false → is_some (order_of f) ≡ true
  has-order f h k =
      let m = both (is_fact f) (option_map_or (same_place t) (owner a f) false) h in
      order-there (is_fact f) (is_some (owner a f)) (order_of f) m.0 (has-owner (owner a f) m.1) k

  all-and : (b c d : Bool) → b ≡ true → c ≡ true → (b && c && d) ≡ d
  all-and b c d e f = λ i. e i && f i && d

  same_order-is : (e f : Located) → owned e ≡ true → owned f ≡ true → ties a e f ≡ same_order e f
  same_order-is e f h k =
      let m = both (is_fact e) (option_map_or (same_place t) (owner a e) false) h in
      let n = both (is_fact f) (option_map_or (same_place t) (owner a f) false) k in
      all-and (is_fact f) (are_siblings a e f) (same_order e f) n.0 (same-owner (owner a e) (owner a f) m.1 n.1)

  differ : (e f : Located) → owned e ≡ true → is_some (order_of e) ≡ true → owned f ≡ true → ties a e f ≡ false → order_cmp (order_of e) (order_of f) ≢ Equal
  differ e f h s k q = apart-by (order_of e) (order_of f) s (sym (same_order-is e f h k) ∙ q)

  -- none of those behind a member has its order
  apart-from : (e : Located) (back : List Located) → owned e ≡ true → is_some (order_of e) ≡ true → All (λ f. ties a e f ≡ false) back
      → All (λ f. order_cmp (order_of e) (order_of f) ≢ Equal) (filter owned back)
  apart-from e [] h s d = All-nil (λ f. order_cmp (order_of e) (order_of f) ≢ Equal)
  apart-from e (f ∷ back) h s d = by (owned f) refl (apart-from e back h s (All-tail (λ f. ties a e f ≡ false) f back d)) where
    by : (b : Bool) → owned f ≡ b → All (λ f. order_cmp (order_of e) (order_of f) ≢ Equal) (filter owned back)
        → All (λ f. order_cmp (order_of e) (order_of f) ≢ Equal) (cond b (f ∷ filter owned back) (filter owned back))
    by true k rest = All-cons (λ f. order_cmp (order_of e) (order_of f) ≢ Equal) f (filter owned back)
        (differ e f h s k (All-head (λ f. ties a e f ≡ false) f back d)) rest
    by false k rest = rest

  repeats-not : (e : Located) (n : ℕ) → owned e ≡ true → (is_fact e && nat_lt 1 n) ≡ false → nat_lt 1 n ≡ false
  repeats-not e n h k = (λ i. sym (both (is_fact e) (option_map_or (same_place t) (owner a e) false) h).0 i && nat_lt 1 n) ∙ k

  ordered-among : (es : List Located) → All (λ e. breaks_link a e L13 ≡ false) es → All (λ e. is_some (order_of e) ≡ true) (filter owned es)
  ordered-among [] l13 = All-nil (λ e. is_some (order_of e) ≡ true)
  ordered-among (e ∷ es) l13 = by (owned e) refl (ordered-among es (All-tail (λ e. breaks_link a e L13 ≡ false) e es l13)) where
    by : (b : Bool) → owned e ≡ b → All (λ e. is_some (order_of e) ≡ true) (filter owned es) → All (λ e. is_some (order_of e) ≡ true) (cond b (e ∷ filter owned es) (filter owned es))
    by true h rest = All-cons (λ e. is_some (order_of e) ≡ true) e (filter owned es) (has-order e h (All-head (λ e. breaks_link a e L13 ≡ false) e es l13)) rest
    by false h rest = rest

abbrev by_order : Located → Located → Ordering
by_order = on order_of order_cmp

total : IsTotalOrder by_order
total = record {
  antisymm = λ x y. order_total.antisymm (order_of x) (order_of y);
  trans = λ x y z. order_total.trans (order_of x) (order_of y) (order_of z);
  congr = λ x y z. order_total.congr (order_of x) (order_of y) (order_of z);
}

module _ (all : List Located) (t : Located) where
  apart-among : (front back : List Located) → all ≡ front ++ back → All (λ e. breaks_link (asks all) e L12 ≡ false) back
      → All (λ e. breaks_link (asks all) e L13 ≡ false) back → Apart by_order total (filter (is_owned_by (asks all) t) back)
  apart-among front [] s l12 l13 = tt
  apart-among front (e ∷ back) s l12 l13 =
      by (is_owned_by (asks all) t e) refl (apart-among (front ++ e ∷ []) back (s ∙ sym (append_assoc front (e ∷ []) back))
      (All-tail (λ e. breaks_link (asks all) e L12 ≡ false) e back l12) (All-tail (λ e. breaks_link (asks all) e L13 ≡ false) e back l13)) where
        by : (b : Bool) → is_owned_by (asks all) t e ≡ b → Apart by_order total (filter (is_owned_by (asks all) t) back)
            → Apart by_order total (cond b (e ∷ filter (is_owned_by (asks all) t) back) (filter (is_owned_by (asks all) t) back))
        by true h rest =
            let has = has-order (asks all) t e h (All-head (λ e. breaks_link (asks all) e L13 ≡ false) e back l13) in
            let few = subst (λ es. nat_lt 1 (length (filter (ties (asks all) e) es)) ≡ false) s
            (repeats-not (asks all) t e (length (filter (ties (asks all) e) all)) h (All-head (λ e. breaks_link (asks all) e L12 ≡ false) e back l12)) in
            let none = behind-one (ties (asks all) e) front e back few (same_order-is (asks all) t e e h h ∙ own-order (order_of e) has) in
            (apart-from (asks all) t e back h has none, rest)
        by false h rest = rest

pub members-rise : (es : List Located) → breaking L12 es ≡ [] → breaking L13 es ≡ [] → (t : Located) → RiseStrictly (members es t)
members-rise es l12 l13 t =
    let owned = filter (is_owned_by (asks es) t) es in
    let ordered = unbroken (asks es) L13 es l13 in
    record {
      ordered = all-sorted by_order total (λ e. is_some (order_of e) ≡ true) owned (ordered-among (asks es) t es ordered);
      rising = pairs by_order total (sorted by_order owned) (sorted-rises by_order total owned (apart-among es t [] es refl (unbroken (asks es) L12 es l12) ordered));
    }
