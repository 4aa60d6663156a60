-- Where each element that goes on does so at a continuation of its own, none is named twice.
use Rattle.std.proofs.Common.{◌≡◌, ◌∙◌, ◌++◌, ◌+◌, ◌<◌, ◌≤◌, ℕ, zero, suc, Bool, true, false, cond, List, [], ◌∷◌, length, refl, ap, sym, subst, arith, Option, Some, None, ◌⊎◌, inl, inr, ⊎_elim, bytes_eq}
use Rattle.std.proofs.lemmas.Bool.{true≢false, false_from_ne_true, and_parts, cases_lt, ltb-true}
use Rattle.std.proofs.lemmas.List.{length-append}
use Rattle.std.proofs.lemmas.List.Elements.{filter-append}
use Rattle.std.proofs.lemmas.Slice.Eq.{bytes_eq-Decides}
use Rattle.std.specs.Prelude.{◌||◌, is_none, option_and_then}
use Rattle.std.specs.List.{filter, list_any, slice_get}
use Rattle.std.specs.Option.{option_map_or}
use Rattle.ix_base.specs.Asks.{Asks, asks, only, are_many}
use Rattle.ix_base.specs.Chain.{continuation, continued_at, next}
use Rattle.ix_base.specs.Ids.{holds_id, id_of}
use Rattle.ix_base.specs.LinkRules.{goes_on_at, is_named_twice, lacks_continuation}
use Rattle.ix_base.specs.LocatedElements.{Located, is_continuation, is_start, is_text}
use Rattle.id_table.specs.Tables.{all_located}
use Rattle.continuations.specs.Links.{AreLinks}
use Rattle.continuations.specs.declared.links.Links.{Links}
use Rattle.continuations.specs.Walks.{next_at, Joined}
use Rattle.continuations.proofs.Numbering.{IsIn, in-got, only-in, such-is, in-filter}
use Rattle.continuations.proofs.Inner.{any-in, in-any}
use Rattle.continuations.proofs.Reaching.{next-number}
use Rattle.continuations.proofs.LinkLaws.{any-kinds, goes-on-kind, lacking-kind, lacking-some}
use Rattle.continuations.proofs.Walking.{some-inj}

some-none : {X Y : Type 0} (x : X) → None ≡ Some x → Y
some-none x e = absurd cc

-- an element that passes, and its number
pub record Passes {X : Type 0} (p : X → Bool) (xs : List X) (i : ℕ) : Type 0 where
  pub item : X
  pub at : slice_get xs i ≡ Some item
  pub pass : p item ≡ true

pub passes-later : {X : Type 0} (p : X → Bool) (x : X) (xs : List X) (i : ℕ) → Passes p xs i → Passes p (x ∷ xs) (suc i)
passes-later p x xs i h = record { item = h.item; at = h.at; pass = h.pass }

one-passes : {X : Type 0} (p : X → Bool) (xs : List X) → 1 ≤ length (filter p xs) → (i : ℕ) × Passes p xs i
one-passes p [] h = absurd (omega (arith, h))
one-passes p (x ∷ xs) h = by (p x) refl h (one-passes p xs) where
  by : (b : Bool) → p x ≡ b → 1 ≤ length (cond b (x ∷ filter p xs) (filter p xs)) → (1 ≤ length (filter p xs) → (i : ℕ) × Passes p xs i) → (i : ℕ) × Passes p (x ∷ xs) i
  by true e h later = (0, record { item = x; at = refl; pass = e })
  by false e h later = let r : (i : ℕ) × Passes p xs i = later h in (suc r.0, passes-later p x xs r.0 r.1)

two-pass : {X : Type 0} (p : X → Bool) (xs : List X) → 2 ≤ length (filter p xs) → (i : ℕ) × (j : ℕ) × (i < j) × Passes p xs i × Passes p xs j
two-pass p [] h = absurd (omega (arith, h))
two-pass p (x ∷ xs) h = by (p x) refl h (two-pass p xs) where
  by : (b : Bool) → p x ≡ b → 2 ≤ length (cond b (x ∷ filter p xs) (filter p xs)) → (2 ≤ length (filter p xs) → (i : ℕ) × (j : ℕ) × (i < j) × Passes p xs i × Passes p xs j)
      → (i : ℕ) × (j : ℕ) × (i < j) × Passes p (x ∷ xs) i × Passes p (x ∷ xs) j
  by true e h later =
      let r : (i : ℕ) × Passes p xs i = one-passes p xs (omega (arith, h)) in
      (0, suc r.0, omega arith, record { item = x; at = refl; pass = e }, passes-later p x xs r.0 r.1)
  by false e h later =
      let r : (i : ℕ) × (j : ℕ) × (i < j) × Passes p xs i × Passes p xs j = later h in
      (suc r.0, suc r.1, omega (arith, r.2), passes-later p x xs r.0 r.3, passes-later p x xs r.1 r.4)

pass-one : {X : Type 0} (p : X → Bool) (xs : List X) (i : ℕ) (x : X) → slice_get xs i ≡ Some x → p x ≡ true → 1 ≤ length (filter p xs)
pass-one p [] i x s t = some-none x s
pass-one p (z ∷ zs) zero x s t = by (p z) (ap p (some-inj z x s) ∙ t) where
  by : (b : Bool) → b ≡ true → 1 ≤ length (cond b (z ∷ filter p zs) (filter p zs))
  by true e = omega arith
  by false e = absurd (true≢false (sym e))
pass-one p (z ∷ zs) (suc i) x s t = by (p z) (pass-one p zs i x s t) where
  by : (b : Bool) → 1 ≤ length (filter p zs) → 1 ≤ length (cond b (z ∷ filter p zs) (filter p zs))
  by true e = omega arith
  by false e = e

pass-two : {X : Type 0} (p : X → Bool) (xs : List X) (i j : ℕ) (x y : X) → i < j → slice_get xs i ≡ Some x → slice_get xs j ≡ Some y → p x ≡ true → p y ≡ true → 2 ≤ length (filter p xs)
pass-two p [] i j x y l s t a b = some-none x s
pass-two p (z ∷ zs) i zero x y l s t a b = absurd (omega (arith, l))
pass-two p (z ∷ zs) zero (suc j) x y l s t a b = by (p z) (ap p (some-inj z x s) ∙ a) (pass-one p zs j y t b) where
  by : (b : Bool) → b ≡ true → 1 ≤ length (filter p zs) → 2 ≤ length (cond b (z ∷ filter p zs) (filter p zs))
  by true e n = omega (arith, n)
  by false e n = absurd (true≢false (sym e))
pass-two p (z ∷ zs) (suc i) (suc j) x y l s t a b = by (p z) (pass-two p zs i j x y (omega (arith, l)) s t a b) where
  by : (b : Bool) → 2 ≤ length (filter p zs) → 2 ≤ length (cond b (z ∷ filter p zs) (filter p zs))
  by true n = omega (arith, n)
  by false n = n

-- among some of these no more pass
fewer : {X : Type 0} (p q : X → Bool) (xs : List X) → length (filter p (filter q xs)) ≤ length (filter p xs)
fewer p q [] = omega arith
fewer p q (x ∷ xs) = by (q x) (p x) refl (fewer p q xs) where
  by : (b c : Bool) → p x ≡ c → length (filter p (filter q xs)) ≤ length (filter p xs) → length (filter p (cond b (x ∷ filter q xs) (filter q xs))) ≤ length (cond c (x ∷ filter p xs) (filter p xs))
  by true true e n = subst (λ d. length (cond d (x ∷ filter p (filter q xs)) (filter p (filter q xs))) ≤ suc (length (filter p xs))) (sym e) (omega (arith, n))
  by true false e n = subst (λ d. length (cond d (x ∷ filter p (filter q xs)) (filter p (filter q xs))) ≤ length (filter p xs)) (sym e) n
  by false true e n = omega (arith, n)
  by false false e n = n

-- those that pass, among elements of two kinds
longer : {X : Type 0} (p : X → Bool) (b : Bool) (x : X) (xs : List X) → length (filter p (cond b (x ∷ xs) xs)) ≡ cond b (cond (p x) 1 0) 0 + length (filter p xs)
longer p true x xs = by (p x) where
  by : (c : Bool) → length (cond c (x ∷ filter p xs) (filter p xs)) ≡ cond c 1 0 + length (filter p xs)
  by true = omega arith
  by false = omega arith
longer p false x xs = omega arith

both-kinds : (p : Located → Bool) → ((e : Located) → p e ≡ true → (is_start e || is_continuation e) ≡ true) → (es : List Located)
    → length (filter p es) ≤ length (filter p (filter is_continuation es)) + length (filter p (filter is_start es))
both-kinds p of [] = omega arith
both-kinds p of (e ∷ es) =
    let c = longer p (is_continuation e) e (filter is_continuation es) in
    let s = longer p (is_start e) e (filter is_start es) in
    let n = longer p true e es in
    let h = both-kinds p of es in
    by (p e) (is_continuation e) (is_start e) (of e) (length (filter p es)) (length (filter p (filter is_continuation es))) (length (filter p (filter is_start es)))
    (length (filter p (e ∷ es))) n (length (filter p (filter is_continuation (e ∷ es)))) c (length (filter p (filter is_start (e ∷ es)))) s h where
      by : (a b c : Bool) → (a ≡ true → (c || b) ≡ true) → (m k l x : ℕ) → x ≡ cond a 1 0 + m → (y : ℕ) → y ≡ cond b (cond a 1 0) 0 + k → (z : ℕ) → z ≡ cond c (cond a 1 0) 0 + l → m ≤ k + l → x ≤ y + z
      by false b c h m k l x d y e z f i = none b c e f where
        none : (b c : Bool) → y ≡ cond b 0 0 + k → z ≡ cond c 0 0 + l → x ≤ y + z
        none true true e f = omega (arith, d, e, f, i)
        none true false e f = omega (arith, d, e, f, i)
        none false true e f = omega (arith, d, e, f, i)
        none false false e f = omega (arith, d, e, f, i)
      by true true true h m k l x d y e z f i = omega (arith, d, e, f, i)
      by true true false h m k l x d y e z f i = omega (arith, d, e, f, i)
      by true false true h m k l x d y e z f i = omega (arith, d, e, f, i)
      by true false false h m k l x d y e z f i = absurd (true≢false (sym (h refl)))

among-both : (p : Located → Bool) → ((e : Located) → p e ≡ true → (is_start e || is_continuation e) ≡ true) → (es xs : List Located)
    → xs ≡ filter is_continuation es ++ filter is_start es → length (filter p es) ≤ length (filter p xs)
among-both p of es xs e =
    let conts = filter p (filter is_continuation es) in
    let starts = filter p (filter is_start es) in
    let n : length (filter p xs) ≡ length conts + length starts
    = ap (λ ys. length (filter p ys)) e ∙ ap length (filter-append p (filter is_continuation es) (filter is_start es)) ∙ length-append conts starts in
    let h = both-kinds p of es in
    omega (arith, n, h)

got-front : {X : Type 0} (xs ys : List X) (k : ℕ) (x : X) → k < length xs → slice_get (xs ++ ys) k ≡ Some x → slice_get xs k ≡ Some x
got-front [] ys k x l h = absurd (omega (arith, l))
got-front (z ∷ zs) ys zero x l h = h
got-front (z ∷ zs) ys (suc k) x l h = got-front zs ys k x (omega (arith, l)) h

only-short : {X : Type 0} (xs : List X) (x : X) → only xs ≡ Some x → length xs ≤ 1
only-short [] x h = some-none x h
only-short (y ∷ []) x h = omega arith
only-short (y ∷ z ∷ zs) x h = some-none x h

-- the id at which an element goes on
named-id : (q : List ℕ) (o : Option (List ℕ)) → is_text q o ≡ true → o ≡ Some q
named-id q None h = absurd (true≢false (sym h))
named-id q (Some r) h = ap Some (sym ((bytes_eq-Decides q r).0 h))

named-some : (a : Asks Located) (o : Option (List ℕ)) → option_map_or (λ id. are_many a (goes_on_at id)) o false ≡ true → (q : List ℕ) × (are_many a (goes_on_at q) ≡ true)
named-some a None h = absurd (true≢false (sym h))
named-some a (Some q) h = (q, h)

-- two numbers of which none is below the other
neither : (m n : ℕ) → (m < n) ⊎ (n ≤ m) → (m < n → ⊥) → (n < m → ⊥) → m ≡ n
neither m n (inl l) a b = absurd (a l)
neither m n (inr l) a b = ⊎_elim (λ k. absurd (b k)) (λ k. omega (arith, l, k)) (cases_lt n m)

module _ (es : List Located) (l : Links) (h : AreLinks es l) (lacks : l.lacks ≡ false) where
  none-lacks : (e : Located) (i : ℕ) → slice_get (all_located l.spots.items) i ≡ Some e → lacks_continuation (asks es) e ≡ false
  none-lacks e i at = false_from_ne_true (lacks_continuation (asks es) e)
      (λ t. true≢false (sym (in-any (lacks_continuation (asks es)) (all_located l.spots.items) e (in-got (all_located l.spots.items) i e at) t)
      ∙ ap (list_any (lacks_continuation (asks es))) h.spots ∙ any-kinds (lacks_continuation (asks es)) (lacking-kind (asks es)) es ∙ sym h.lacks ∙ lacks))

  found : (q : List ℕ) (o : Option (List ℕ)) → o ≡ Some q → option_map_or (λ id. is_none (continuation (asks es) id)) o false ≡ false
      → (c : Located) × (continuation (asks es) q ≡ Some c) × (option_and_then (continuation (asks es)) o ≡ Some c)
  found q o e f = by (continuation (asks es) q) refl (sym (ap (λ p. option_map_or (λ id. is_none (continuation (asks es) id)) p false) e) ∙ f) where
    by : (p : Option Located) → continuation (asks es) q ≡ p → is_none p ≡ false → (c : Located) × (continuation (asks es) q ≡ Some c) × (option_and_then (continuation (asks es)) o ≡ Some c)
    by None t n = absurd (true≢false n)
    by (Some c) t n = (c, t, ap (option_and_then (continuation (asks es))) e ∙ t)

  -- where an element that names an id goes on
  goes-to : (q : List ℕ) (i : ℕ) → Passes (goes_on_at q) (all_located l.spots.items) i
      → (c : Located) × (continuation (asks es) q ≡ Some c) × (n : ℕ) × (next_at l.nexts.items i ≡ Some n) × (slice_get (all_located l.spots.items) n ≡ Some c)
  goes-to q i p =
      let f : (c : Located) × (continuation (asks es) q ≡ Some c) × (next (asks es) p.item ≡ Some c)
      = found q (continued_at p.item) (named-id q (continued_at p.item) p.pass) (none-lacks p.item i p.at) in
      let n : (n : ℕ) × (next_at l.nexts.items i ≡ Some n) × (slice_get (all_located l.spots.items) n ≡ Some f.0)
      = next-number (asks es) (all_located l.spots.items) p.item f.0 (next_at l.nexts.items i) (h.nexts.names i p.item p.at) f.2 in
      (f.0, f.1, n.0, n.1, n.2)

  among : (n : ℕ) (c : Located) → n < l.continuations → slice_get (all_located l.spots.items) n ≡ Some c → slice_get (filter is_continuation es) n ≡ Some c
  among n c below at = got-front (filter is_continuation es) (filter is_start es) n c (subst (λ m. n < m) h.counted below) (sym (ap (λ ys. slice_get ys n) h.spots) ∙ at)

  -- the one continuation with an id has one number
  apart : (q : List ℕ) (c d : Located) (m n : ℕ) → continuation (asks es) q ≡ Some c → continuation (asks es) q ≡ Some d → m < l.continuations → n < l.continuations
      → slice_get (all_located l.spots.items) m ≡ Some c → slice_get (all_located l.spots.items) n ≡ Some d → m < n → ⊥
  apart q c d m n one other k l s t below =
      let sole : (only (filter (holds_id q) es) ≡ Some c) × (is_continuation c ≡ true) = such-is is_continuation (only (filter (holds_id q) es)) c one in
      let has : holds_id q c ≡ true = (in-filter (holds_id q) es c (only-in (filter (holds_id q) es) c sole.0)).1 in
      let same : d ≡ c = some-inj d c (sym other ∙ one) in
      let two : 2 ≤ length (filter (holds_id q) (filter is_continuation es))
      = pass-two (holds_id q) (filter is_continuation es) m n c d below (among m c k s) (among n d l t) has (ap (holds_id q) same ∙ has) in
      let short : length (filter (holds_id q) es) ≤ 1 = only-short (filter (holds_id q) es) c sole.0 in
      let part = fewer (holds_id q) is_continuation es in
      omega (arith, two, short, part)

  joined : (q : List ℕ) → 2 ≤ length (filter (goes_on_at q) (all_located l.spots.items)) → Joined l.nexts.items
  joined q two =
      let p : (i : ℕ) × (j : ℕ) × (i < j) × Passes (goes_on_at q) (all_located l.spots.items) i × Passes (goes_on_at q) (all_located l.spots.items) j = two-pass (goes_on_at q) (all_located l.spots.items) two in
      let c : (c : Located) × (continuation (asks es) q ≡ Some c) × (n : ℕ) × (next_at l.nexts.items p.0 ≡ Some n) × (slice_get (all_located l.spots.items) n ≡ Some c) = goes-to q p.0 p.3 in
      let d : (c : Located) × (continuation (asks es) q ≡ Some c) × (n : ℕ) × (next_at l.nexts.items p.1 ≡ Some n) × (slice_get (all_located l.spots.items) n ≡ Some c) = goes-to q p.1 p.4 in
      let low : c.2 < l.continuations = h.nexts.below p.0 c.2 c.3 in
      let high : d.2 < l.continuations = h.nexts.below p.1 d.2 d.3 in
      let same : c.2 ≡ d.2 = neither c.2 d.2 (cases_lt c.2 d.2) (apart q c.0 d.0 c.2 d.2 c.1 d.1 low high c.4 d.4) (apart q d.0 c.0 d.2 c.2 d.1 c.1 high low d.4 c.4) in
      (p.0, p.1, d.2, p.2, c.3 ∙ ap Some same, d.3)

  pub none-named_twice : l.joins ≡ false → list_any (is_named_twice (asks es)) es ≡ false
  none-named_twice joins = false_from_ne_true (list_any (is_named_twice (asks es)) es) (λ t.
      let e : (e : Located) × IsIn e es × (is_named_twice (asks es) e ≡ true) = any-in (is_named_twice (asks es)) es t in
      let q : (q : List ℕ) × (are_many (asks es) (goes_on_at q) ≡ true)
      = named-some (asks es) (id_of e.0) (and_parts (is_continuation e.0) (option_map_or (λ id. are_many (asks es) (goes_on_at id)) (id_of e.0) false) e.2).1 in
      let many : 1 < length (filter (goes_on_at q.0) es) = ltb-true 1 (length (filter (goes_on_at q.0) es)) q.1 in
      let all : length (filter (goes_on_at q.0) es) ≤ length (filter (goes_on_at q.0) (all_located l.spots.items))
      = among-both (goes_on_at q.0) (λ x s. goes-on-kind x (lacking-some (bytes_eq q.0) (continued_at x) s)) es (all_located l.spots.items) h.spots in
      true≢false (sym (h.joins.1 (joined q.0 (omega (arith, many, all)))) ∙ joins))
