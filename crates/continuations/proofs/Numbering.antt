-- Numbers of continuations.
use Rattle.std.proofs.Common.{◌≡◌, ◌∙◌, ◌+◌, ◌<◌, ◌≤◌, ◌++◌, ℕ, zero, suc, Bool, true, false, cond, List, [], ◌∷◌, length, get_or, drop, refl, ap, sym, subst, arith, zero-add, Option, Some, None, ◌⊎◌, inl, inr, ⊎_elim, option_map}
use Rattle.std.proofs.lemmas.Bool.{cases_eq, cases_lt, ltb-false, true≢false}
use Rattle.std.proofs.lemmas.Option.{slice_get_within, slice_get-map, slice_get_read}
use Rattle.std.proofs.Math.ListN.{get_or-eq_default}
use Rattle.std.proofs.lemmas.List.{length-append, length-map}
use Rattle.std.specs.Borrow.{Bor}
use Rattle.std.specs.List.{filter, slice_get}
use Rattle.std.specs.Option.{option_map_or}
use Rattle.std.specs.Prelude.{nat_lt, is_some}
use Rattle.ix_base.specs.Asks.{Asks, asks, only, if_such}
use Rattle.ix_base.specs.Chain.{next, continuation}
use Rattle.ix_base.specs.Ids.{holds_id}
use Rattle.ix_base.specs.LocatedElements.{Located, located, is_continuation}
use Rattle.text_map.specs.Texts.{Texts}
use Rattle.ix_base.specs.declared.tree.Spot.{Spot}
use Rattle.id_table.specs.declared.chain_element.ChainElement.{ChainElement}
use Rattle.id_table.specs.Tables.{all_located, chain_spots}
use Rattle.continuations.specs.Numbers.{number_at, AreNumbers, numbered_in, nexts_of}
use Rattle.continuations.specs.Walks.{next_at, AreNexts}
use Rattle.continuations.proofs.Walking.{some-inj}

-- the element is one of these
unfoldable pub IsIn : {X : Type 0} → X → List X → Type 0
IsIn x [] = ⊥
IsIn x (y ∷ ys) = (x ≡ y) ⊎ IsIn x ys

pub some-none : {X Y : Type 0} (x : X) → None ≡ Some x → Y
some-none x e = absurd cc

pub in-got : {X : Type 0} (xs : List X) (k : ℕ) (x : X) → slice_get xs k ≡ Some x → IsIn x xs
unfolding IsIn
in-got [] k x e = some-none x e
in-got (y ∷ ys) zero x e = inl (sym (some-inj y x e))
in-got (y ∷ ys) (suc k) x e = inr (in-got ys k x e)

pub got-in : {X : Type 0} (xs : List X) (x : X) → IsIn x xs → (k : ℕ) × (slice_get xs k ≡ Some x)
unfolding IsIn
got-in [] x h = absurd h
got-in (y ∷ ys) x (inl e) = (0, ap Some (sym e))
got-in (y ∷ ys) x (inr h) = let f : (k : ℕ) × (slice_get ys k ≡ Some x) = got-in ys x h in (suc f.0, f.1)

pub in-filter : {X : Type 0} (p : X → Bool) (xs : List X) (x : X) → IsIn x (filter p xs) → IsIn x xs × (p x ≡ true)
unfolding IsIn
in-filter p [] x h = absurd h
in-filter p (y ∷ ys) x h = by (p y) refl (in-filter p ys x) h where
  by : (b : Bool) → p y ≡ b → (IsIn x (filter p ys) → IsIn x ys × (p x ≡ true)) → IsIn x (cond b (y ∷ filter p ys) (filter p ys)) → IsIn x (y ∷ ys) × (p x ≡ true)
  by true e later (inl same) = (inl same, ap p same ∙ e)
  by true e later (inr h) = (inr (later h).0, (later h).1)
  by false e later h = (inr (later h).0, (later h).1)

pub filter-in : {X : Type 0} (p : X → Bool) (xs : List X) (x : X) → IsIn x xs → p x ≡ true → IsIn x (filter p xs)
unfolding IsIn
filter-in p [] x h t = absurd h
filter-in p (y ∷ ys) x (inl e) t = subst (λ b. IsIn x (cond b (y ∷ filter p ys) (filter p ys))) (sym t ∙ ap p e) (inl e)
filter-in p (y ∷ ys) x (inr h) t = by (p y) (filter-in p ys x h t) where
  by : (b : Bool) → IsIn x (filter p ys) → IsIn x (cond b (y ∷ filter p ys) (filter p ys))
  by true k = inr k
  by false k = k

pub only-in : {X : Type 0} (xs : List X) (e : X) → only xs ≡ Some e → IsIn e xs
unfolding IsIn
only-in [] e h = some-none e h
only-in (x ∷ []) e h = inl (sym (some-inj x e h))
only-in (x ∷ y ∷ ys) e h = some-none e h

only-is : {X : Type 0} (xs : List X) (e x : X) → only xs ≡ Some e → IsIn x xs → x ≡ e
unfolding IsIn
only-is [] e x h i = absurd i
only-is (y ∷ []) e x h (inl same) = same ∙ some-inj y e h
only-is (y ∷ []) e x h (inr i) = absurd i
only-is (y ∷ z ∷ zs) e x h i = some-none e h

pub such-is : {X : Type 0} (p : X → Bool) (o : Option X) (e : X) → if_such p o ≡ Some e → (o ≡ Some e) × (p e ≡ true)
such-is p None e h = some-none e h
such-is p (Some x) e h = by (p x) refl h where
  by : (b : Bool) → p x ≡ b → cond b (Some x) None ≡ Some e → (Some x ≡ Some e) × (p e ≡ true)
  by true t h = (h, ap p (sym (some-inj x e h)) ∙ t)
  by false t h = some-none e h

-- the number that is kept at the id of the one continuation with it is that continuation's
pub number-is : (m : Texts ℕ) (es : List Located) (q : List ℕ) (e : Located) (o : Option ℕ)
    → AreNumbers m (filter is_continuation es) (length (filter is_continuation es)) → continuation (asks es) q ≡ Some e → number_at m q ≡ o
    → option_map (slice_get (filter is_continuation es)) o ≡ Some (Some e)
number-is m es q e o numbers h n = by o n where
  one : (only (filter (holds_id q) es) ≡ Some e) × (is_continuation e ≡ true)
  one = such-is is_continuation (only (filter (holds_id q) es)) e h

  among : IsIn e es × (holds_id q e ≡ true)
  among = in-filter (holds_id q) es e (only-in (filter (holds_id q) es) e one.0)

  place : (k : ℕ) × (slice_get (filter is_continuation es) k ≡ Some e)
  place = got-in (filter is_continuation es) e (filter-in is_continuation es e among.0 one.1)

  by : (o : Option ℕ) → number_at m q ≡ o → option_map (slice_get (filter is_continuation es)) o ≡ Some (Some e)
  by None n = absurd (true≢false (sym among.1 ∙ numbers.missed q n place.0 e (slice_get_within (filter is_continuation es) place.0 e place.1) place.1))
  by (Some k) n =
      let f : (x : Located) × (slice_get (filter is_continuation es) k ≡ Some x) × (holds_id q x ≡ true) = numbers.found q k n in
      let same : f.0 ≡ e = only-is (filter (holds_id q) es) e f.0 one.0
      (filter-in (holds_id q) es f.0 (in-filter is_continuation es f.0 (in-got (filter is_continuation es) k f.0 f.1)).0 f.2) in
      ap Some (f.1 ∙ ap Some same)

-- the element of a number that has the id of one continuation alone is that continuation
pub named-is : (es : List Located) (q : List ℕ) (k : ℕ) (e : Located) → continuation (asks es) q ≡ Some e
    → option_map_or (holds_id q) (slice_get (filter is_continuation es) k) false ≡ true → slice_get (filter is_continuation es) k ≡ Some e
named-is es q k e h t = by (slice_get (filter is_continuation es) k) refl t where
  by : (o : Option Located) → slice_get (filter is_continuation es) k ≡ o → option_map_or (holds_id q) o false ≡ true → o ≡ Some e
  by None s t = absurd (let z : false ≡ true = t in cc)
  by (Some x) s t = ap Some (only-is (filter (holds_id q) es) e x (such-is is_continuation (only (filter (holds_id q) es)) e h).0
      (filter-in (holds_id q) es x (in-filter is_continuation es x (in-got (filter is_continuation es) k x s)).0 t))

pub named-known : (es : List Located) (q : List ℕ) (k : ℕ) (s : Option (Bor Spot)) → is_some s ≡ true → option_map (λ t. located t.now) s ≡ continuation (asks es) q
    → option_map_or (holds_id q) (slice_get (filter is_continuation es) k) false ≡ true
    → Some (slice_get (filter is_continuation es) k) ≡ option_map Some (continuation (asks es) q)
named-known es q k None h e t = absurd (let z : false ≡ true = h in cc)
named-known es q k (Some s) h e t = ap Some (named-is es q k (located s.now) (sym e) t) ∙ ap (option_map Some) e

only-of : {X : Type 0} (xs : List X) (x : X) → nat_lt 1 (length xs) ≡ false → IsIn x xs → only xs ≡ Some x
unfolding IsIn
only-of [] x h i = absurd i
only-of (y ∷ []) x h (inl same) = ap Some (sym same)
only-of (y ∷ []) x h (inr i) = absurd i
only-of (y ∷ z ∷ zs) x h i = absurd (let l : suc (suc (length zs)) ≤ 1 = ltb-false 1 (suc (suc (length zs))) h in omega (arith, l))

-- where no other element has the id of a continuation, it is the one continuation with it
pub named-alone : (es : List Located) (q : List ℕ) (k : ℕ) → nat_lt 1 (length (filter (holds_id q) es)) ≡ false
    → option_map_or (holds_id q) (slice_get (filter is_continuation es) k) false ≡ true
    → Some (slice_get (filter is_continuation es) k) ≡ option_map Some (continuation (asks es) q)
named-alone es q k h t = by (slice_get (filter is_continuation es) k) refl t where
  by : (o : Option Located) → slice_get (filter is_continuation es) k ≡ o → option_map_or (holds_id q) o false ≡ true
      → Some o ≡ option_map Some (continuation (asks es) q)
  by None s t = absurd (let z : false ≡ true = t in cc)
  by (Some x) s t =
      let among : IsIn x es × (is_continuation x ≡ true) = in-filter is_continuation es x (in-got (filter is_continuation es) k x s) in
      ap (option_map Some) (sym (ap (if_such is_continuation) (only-of (filter (holds_id q) es) x h (filter-in (holds_id q) es x among.0 t))
      ∙ ap (λ b. cond b (Some x) None) among.1))

-- one number more
pub numbered-more : (old new : Texts ℕ) (xs : List Located) (i : ℕ) (x : Located) → AreNumbers old xs i → slice_get xs i ≡ Some x
    → ((q : List ℕ) → number_at new q ≡ cond (holds_id q x) (Some i) (number_at old q)) → AreNumbers new xs (i + 1)
numbered-more old new xs i x numbers at entered = record {
  found = λ q k n. found-by q k (holds_id q x) refl (sym (entered q) ∙ n);
  missed = λ q n. missed-by q (holds_id q x) refl (sym (entered q) ∙ n);
} where
  found-by : (q : List ℕ) (k : ℕ) (b : Bool) → holds_id q x ≡ b → cond b (Some i) (number_at old q) ≡ Some k → (e : Located) × (slice_get xs k ≡ Some e) × (holds_id q e ≡ true)
  found-by q k true t n = (x, ap (slice_get xs) (sym (some-inj i k n)) ∙ at, t)
  found-by q k false t n = numbers.found q k n

  missed-by : (q : List ℕ) (b : Bool) → holds_id q x ≡ b → cond b (Some i) (number_at old q) ≡ None → (k : ℕ) (e : Located) → k < i + 1 → slice_get xs k ≡ Some e → holds_id q e ≡ false
  missed-by q true t n = some-none i (sym n)
  missed-by q false t n = λ k e l s.
      ⊎_elim (λ (same : k ≡ i). ap (holds_id q) (some-inj e x (sym s ∙ ap (slice_get xs) same ∙ at)) ∙ t)
      (λ (other : k ≡ i → ⊥). numbers.missed q n k e (omega (arith, l, other)) s) (cases_eq k i)

-- each number is that of the element at which this one goes on
pub number-at : (a : Asks Located) (conts xs : List Located) (nexts : List (Option ℕ)) → numbered_in conts nexts ≡ nexts_of a xs
    → (k : ℕ) (e : Located) → slice_get xs k ≡ Some e → option_map (slice_get conts) (next_at nexts k) ≡ option_map Some (next a e)
number-at a conts [] nexts h k e s = some-none e s
number-at a conts (x ∷ xs) [] h k e s = absurd cc
number-at a conts (x ∷ xs) (n ∷ ns) h zero e s = ap (λ (os : List (Option (Option Located))). get_or os 0 None) h ∙ ap (λ y. option_map Some (next a y)) (some-inj x e s)
number-at a conts (x ∷ xs) (n ∷ ns) h (suc k) e s = number-at a conts xs ns (ap (drop 1) h) k e s

-- what stands at a number of the first list stands there in both
pub got-left : {X : Type 0} (xs ys : List X) (k : ℕ) (x : X) → slice_get xs k ≡ Some x → slice_get (xs ++ ys) k ≡ Some x
got-left [] ys k x h = some-none x h
got-left (z ∷ zs) ys zero x h = h
got-left (z ∷ zs) ys (suc k) x h = got-left zs ys k x h

pub got-right : {X : Type 0} (xs ys : List X) (k : ℕ) (x : X) → slice_get ys k ≡ Some x → slice_get (xs ++ ys) (length xs + k) ≡ Some x
got-right [] ys k x h = ap (slice_get ys) (zero-add k) ∙ h
got-right (z ∷ zs) ys k x h =
    let e : suc (length zs) + k ≡ suc (length zs + k) = omega arith in
    ap (slice_get (z ∷ (zs ++ ys))) e ∙ got-right zs ys k x h

-- what stands behind the first list stands in the second
pub got-behind : {X : Type 0} (xs ys : List X) (k : ℕ) (x : X) → length xs ≤ k → slice_get (xs ++ ys) k ≡ Some x → IsIn x ys
got-behind [] ys k x l h = in-got ys k x h
got-behind (z ∷ zs) ys zero x l h = absurd (omega (arith, l))
got-behind (z ∷ zs) ys (suc k) x l h = got-behind zs ys k x (omega (arith, l)) h

pub got-at : {X : Type 0} (xs : List X) (k : ℕ) → k < length xs → (x : X) × (slice_get xs k ≡ Some x)
got-at [] k l = absurd (omega (arith, l))
got-at (x ∷ xs) zero l = (x, refl)
got-at (x ∷ xs) (suc k) l = got-at xs k (omega (arith, l))

pub none-at : {X : Type 0} (xs : List X) (k : ℕ) → length xs ≤ k → slice_get xs k ≡ None
none-at [] k l = refl
none-at (x ∷ xs) zero l = absurd (omega (arith, l))
none-at (x ∷ xs) (suc k) l = none-at xs k (omega (arith, l))

-- the element that a spot in a list is
pub located-at : (xs : List (Bor Spot)) (i : ℕ) (s : Bor Spot) → i < length xs → s ≡ get_or xs i s → slice_get (all_located xs) i ≡ Some (located s.now)
located-at xs i s l e = slice_get-map (λ (t : Bor Spot). located t.now) xs i ∙ ap (option_map (λ (t : Bor Spot). located t.now)) (slice_get_read xs (length xs) i s refl l e)

-- the element of a chain at a number in a list
pub element-at : (es : List ChainElement) (i : ℕ) (e : ChainElement) → i < length es → e ≡ get_or es i e → slice_get (all_located (chain_spots es)) i ≡ Some (located e.spot.now)
element-at es i e l is =
    slice_get-map (λ (t : Bor Spot). located t.now) (chain_spots es) i
    ∙ ap (option_map (λ (t : Bor Spot). located t.now))
    (slice_get-map (λ (x : ChainElement). x.spot) es i ∙ ap (option_map (λ (x : ChainElement). x.spot)) (slice_get_read es (length es) i e refl l is))

-- so many are the elements
pub count-elements : (es : List ChainElement) → length (all_located (chain_spots es)) ≡ length es
count-elements es = length-map (chain_spots es) (λ (s : Bor Spot). located s.now) ∙ length-map es (λ (e : ChainElement). e.spot)

some-some : {X : Type 0} (o : Option X) (j : ℕ) (xs : List X) → option_map (slice_get xs) (Some j) ≡ option_map Some o → j < length xs
some-some None j xs h = absurd cc
some-some (Some x) j xs h = slice_get_within xs j x (some-inj (slice_get xs j) (Some x) h)

-- the numbers among the continuations are those among all
pub links-are : (a : Asks Located) (conts starts xs : List Located) (nexts : List (Option ℕ)) (count : ℕ)
    → xs ≡ conts ++ starts → count ≡ length conts → numbered_in conts nexts ≡ nexts_of a xs → AreNexts a xs count nexts
links-are a conts starts xs nexts count all counted same = record {
  length_is = len;
  small = let e : length xs ≡ length conts + length starts = ap length all ∙ length-append conts starts in omega (arith, e, counted);
  below = λ k j h. below k j h (cases_lt k (length xs));
  names = λ k e s. rw all (named k e s (next_at nexts k) (next a e) (number-at a conts xs nexts same k e s));
} where
  len : length nexts ≡ length xs
  len = sym (length-map nexts (option_map (slice_get conts))) ∙ ap length same ∙ length-map xs (λ e. option_map Some (next a e))

  below : (k j : ℕ) → next_at nexts k ≡ Some j → (k < length xs) ⊎ (length xs ≤ k) → j < count
  below k j h (inl l) =
      let at : (e : Located) × (slice_get xs k ≡ Some e) = got-at xs k l in
      let e : count ≡ length conts = counted in
      let s : j < length conts = some-some (next a at.0) j conts (sym (ap (option_map (slice_get conts)) h) ∙ number-at a conts xs nexts same k at.0 at.1) in
      omega (arith, e, s)
  below k j h (inr l) = some-none j (sym (get_or-eq_default nexts None (subst (λ m. m ≤ k) (sym len) l)) ∙ h)

  named : (k : ℕ) (e : Located) → slice_get xs k ≡ Some e → (o : Option ℕ) (p : Option Located) → option_map (slice_get conts) o ≡ option_map Some p → option_map (slice_get (conts ++ starts)) o ≡ option_map Some p
  named k e s None p h = h
  named k e s (Some j) None h = absurd cc
  named k e s (Some j) (Some x) h = ap Some (got-left conts starts j x (some-inj (slice_get conts j) (Some x) h))
