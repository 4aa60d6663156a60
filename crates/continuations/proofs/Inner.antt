-- Elements of chains that stand inside others.
use Rattle.std.proofs.Common.{◌≡◌, ◌∙◌, ◌+◌, ◌<◌, ◌≤◌, ◌++◌, ◌↔◌, ℕ, Bool, true, false, cond, List, [], ◌∷◌, length, refl, ap, sym, subst, arith, Option, Some, ◌⊎◌, inl, inr, ⊎_elim}
use Rattle.std.proofs.Math.ListN.{get_or-append}
use Rattle.std.proofs.Math.Seq.{get_or-append_seam}
use Rattle.std.proofs.lemmas.Bool.{cases_eq, true≢false, or_left, or_right, eqb-true, eq-eqb, and_from, and_parts}
use Rattle.std.proofs.lemmas.List.Folds.{list_any-append}
use Rattle.std.proofs.lemmas.Option.{slice_get_within}
use Rattle.std.specs.Prelude.{◌&&◌, ◌||◌, ◌==◌, Vec}
use Rattle.std.specs.Global.{Global}
use Rattle.std.specs.Option.{option_map_or}
use Rattle.std.specs.List.{filter, list_any, slice_get}
use Rattle.indexmap.specs.IndexMap.{IndexMap}
use Rattle.indexmap.specs.IndexSet.{IndexSet}
use Rattle.ix_base.specs.Asks.{asks}
use Rattle.ix_base.specs.Chain.{chain_of}
use Rattle.ix_base.specs.LinkRules.{is_at, stands_inside, inner_along}
use Rattle.ix_base.specs.LocatedElements.{Located, is_start}
use Rattle.ix_base.specs.Trees.{Tree}
use Rattle.continuations.specs.Visits.{Shared}
use Rattle.continuations.specs.InnerElements.{numbers_at, ArePlaced, AnyOf, SharesAny, IsInner, AreInner}
use Rattle.continuations.specs.Places.{holds, StandsFor, HoldsMarked}
use Rattle.continuations.specs.ChainReach.{inner_by, most_of}
use Rattle.continuations.specs.Walks.{Reaches, is_marked}
use Rattle.continuations.proofs.Numbering.{IsIn}
use Rattle.continuations.proofs.Reaching.{chain-found, any-flat, flat-any, same-bool}
use Rattle.continuations.proofs.Standing.{AreOf, start-at, start-number, chain-long}
use Rattle.continuations.proofs.Walking.{some-inj}

pub any-in : {X : Type 0} (p : X → Bool) (xs : List X) → list_any p xs ≡ true → (x : X) × IsIn x xs × (p x ≡ true)
unfolding IsIn
any-in p [] h = absurd (true≢false (sym h))
any-in {X = X} p (x ∷ xs) h = by (p x) refl h (any-in p xs) where
  by : (b : Bool) → p x ≡ b → (b || list_any p xs) ≡ true → (list_any p xs ≡ true → (y : X) × IsIn y xs × (p y ≡ true)) → (y : X) × IsIn y (x ∷ xs) × (p y ≡ true)
  by true e h later = (x, inl refl, e)
  by false e h later = let r : (y : X) × IsIn y xs × (p y ≡ true) = later h in (r.0, inr r.1, r.2)

pub in-any : {X : Type 0} (p : X → Bool) (xs : List X) (x : X) → IsIn x xs → p x ≡ true → list_any p xs ≡ true
unfolding IsIn
in-any p [] x i h = absurd i
in-any p (y ∷ ys) x (inl e) h = or_left (p y) (list_any p ys) (ap p (sym e) ∙ h)
in-any p (y ∷ ys) x (inr i) h = or_right (p y) (list_any p ys) (in-any p ys x i h)

of-in : {X : Type 0} (P : X → Type 0) (xs : List X) (x : X) → IsIn x xs → P x → AnyOf P xs
unfolding IsIn
of-in P [] x i h = absurd i
of-in P (y ∷ ys) x (inl e) h = inl (subst P e h)
of-in P (y ∷ ys) x (inr i) h = inr (of-in P ys x i h)

in-of : {X : Type 0} (P : X → Type 0) (xs : List X) → AnyOf P xs → (x : X) × IsIn x xs × P x
unfolding IsIn
in-of P [] h = absurd h
in-of P (x ∷ xs) (inl h) = (x, inl refl, h)
in-of {X = X} P (x ∷ xs) (inr h) = let r : (y : X) × IsIn y xs × P y = in-of P xs h in (r.0, inr r.1, r.2)

filter-any : {X : Type 0} (p q : X → Bool) (xs : List X) → list_any q (filter p xs) ≡ list_any (λ x. p x && q x) xs
filter-any p q [] = refl
filter-any p q (x ∷ xs) = by (p x) (filter-any p q xs) where
  by : (b : Bool) → list_any q (filter p xs) ≡ list_any (λ x. p x && q x) xs → list_any q (cond b (x ∷ filter p xs) (filter p xs)) ≡ (b && q x || list_any (λ x. p x && q x) xs)
  by true e = ap (λ c. q x || c) e
  by false e = e

-- the places of the marked ones are those of what stands inside its chain
pub inner-stands : {S T : Type 0} (places : IndexSet (ℕ × ℕ) S) (m : IndexMap (ℕ × ℕ) (Vec ℕ Global) T) (es xs : List Located) (count : ℕ) (ns : List (Option ℕ)) (marks : List Bool)
    → AreOf es xs count ns → ArePlaced m xs (length xs) → AreInner ns count m xs (length xs) marks → HoldsMarked places xs marks (length xs)
    → StandsFor places (inner_by (asks es) (most_of (asks es)) es)
inner-stands places m es xs count ns marks o at a p = λ page offset. same-bool (holds places page offset) _ (to page offset, from page offset) where
  chain : Located → List Located
  chain s = chain_of (asks es) (most_of (asks es)) s

  to : (page offset : ℕ) → holds places page offset ≡ true → list_any (is_at page offset) (inner_by (asks es) (most_of (asks es)) es) ≡ true
  to page offset h =
      let f : (k : ℕ) × (e : Located) × (slice_get xs k ≡ Some e) × (is_marked marks k ≡ true) × (is_at page offset e ≡ true) = p.found page offset h in
      let e = f.1 in
      let inner : IsInner ns count m f.0 e = (a f.0 e (slice_get_within xs f.0 e f.2) f.2).0 f.3 in
      let t : (t : Tree) × IsIn t e.placed.above × SharesAny ns count (numbers_at m e.page t.head.offset) f.0
      = in-of (λ t. SharesAny ns count (numbers_at m e.page t.head.offset) f.0) e.placed.above inner in
      let y : ℕ = (t.2).0 in
      let s : Shared ns count (length ns) f.0 y = (t.2).2 in
      let j : (j : ℕ) × (g : Located) × (slice_get xs j ≡ Some g) × (is_at e.page (t.0).head.offset g ≡ true) × ((y == j) ≡ true)
      = at.found (λ n. y == n) e.page (t.0).head.offset (t.2).1 in
      let there : Reaches ns s.0 j.0 = subst (Reaches ns s.0) (eqb-true y j.0 j.4) s.4 in
      let begin : (b : Located) × (slice_get xs s.0 ≡ Some b) × IsIn b (filter is_start es) = start-at es xs count ns o s.0 s.1 s.2 in
      let stands : stands_inside (chain begin.0) e ≡ true
      = in-any (λ (u : Tree). list_any (is_at e.page u.head.offset) (chain begin.0)) e.placed.above t.0 t.1
      (chain-long es xs count ns o (is_at e.page (t.0).head.offset) s.0 j.0 begin.0 j.1 there begin.1 j.2 j.3) in
      flat-any (is_at page offset) (λ b. inner_along (chain b)) (filter is_start es) begin.0 begin.2
      (filter-any (stands_inside (chain begin.0)) (is_at page offset) (chain begin.0)
      ∙ chain-long es xs count ns o (λ x. stands_inside (chain begin.0) x && is_at page offset x) s.0 f.0 begin.0 e s.3 begin.1 f.2 (and_from _ _ stands f.4))

  from : (page offset : ℕ) → list_any (is_at page offset) (inner_by (asks es) (most_of (asks es)) es) ≡ true → holds places page offset ≡ true
  from page offset h =
      let b : (b : Located) × IsIn b (filter is_start es) × (list_any (is_at page offset) (inner_along (chain b)) ≡ true)
      = any-flat (is_at page offset) (λ b. inner_along (chain b)) (filter is_start es) h in
      let n : (h : ℕ) × (count ≤ h) × (h < length ns) × (slice_get xs h ≡ Some b.0) = start-number es xs count ns o b.0 b.1 in
      let f : (j : ℕ) × (e : Located) × Reaches ns n.0 j × (slice_get xs j ≡ Some e) × ((stands_inside (chain b.0) e && is_at page offset e) ≡ true)
      = chain-found (asks es) xs count ns o.nexts (λ x. stands_inside (chain b.0) x && is_at page offset x) (most_of (asks es)) n.0 b.0 n.3
      (sym (filter-any (stands_inside (chain b.0)) (is_at page offset) (chain b.0)) ∙ b.2) in
      let e = f.1 in
      let both = and_parts (stands_inside (chain b.0) e) (is_at page offset e) f.4 in
      let t : (t : Tree) × IsIn t e.placed.above × (list_any (is_at e.page t.head.offset) (chain b.0) ≡ true)
      = any-in (λ (u : Tree). list_any (is_at e.page u.head.offset) (chain b.0)) e.placed.above both.0 in
      let g : (j : ℕ) × (x : Located) × Reaches ns n.0 j × (slice_get xs j ≡ Some x) × (is_at e.page (t.0).head.offset x ≡ true)
      = chain-found (asks es) xs count ns o.nexts (is_at e.page (t.0).head.offset) (most_of (asks es)) n.0 b.0 n.3 t.2 in
      let shares : SharesAny ns count (numbers_at m e.page (t.0).head.offset) f.0
      = (g.0, at.kept (λ i. g.0 == i) e.page (t.0).head.offset g.0 g.1 (slice_get_within xs g.0 g.1 g.3) g.3 g.4 (eq-eqb g.0 g.0 refl), (n.0, n.1, n.2, f.2, g.2)) in
      p.kept page offset f.0 e (slice_get_within xs f.0 e f.3) f.3
      ((a f.0 e (slice_get_within xs f.0 e f.3) f.3).1 (of-in (λ u. SharesAny ns count (numbers_at m e.page u.head.offset) f.0) e.placed.above t.0 t.1 shares)) both.1

-- one number more at its place
pub placed-more : {S : Type 0} (old new : IndexMap (ℕ × ℕ) (Vec ℕ Global) S) (xs : List Located) (i : ℕ) (x : Located) → ArePlaced old xs i → slice_get xs i ≡ Some x
    → ((page offset : ℕ) → numbers_at new page offset ≡ cond (is_at page offset x) (numbers_at old page offset ++ i ∷ []) (numbers_at old page offset)) → ArePlaced new xs (i + 1)
placed-more old new xs i x a at grown = record {
  found = λ p page offset h. found p page offset (is_at page offset x) refl (sym (ap (list_any p) (grown page offset)) ∙ h);
  kept = λ p page offset j f l s q t. ap (list_any p) (grown page offset) ∙ kept p page offset j f s q t (is_at page offset x) refl l (cases_eq j i);
} where
  found : (p : ℕ → Bool) (page offset : ℕ) (b : Bool) → is_at page offset x ≡ b → list_any p (cond b (numbers_at old page offset ++ i ∷ []) (numbers_at old page offset)) ≡ true
      → (j : ℕ) × (f : Located) × (slice_get xs j ≡ Some f) × (is_at page offset f ≡ true) × (p j ≡ true)
  found p page offset false e h = a.found p page offset h
  found p page offset true e h = by (list_any p (numbers_at old page offset)) refl (p i) refl (sym (list_any-append p (numbers_at old page offset) (i ∷ [])) ∙ h) where
    by : (c : Bool) → list_any p (numbers_at old page offset) ≡ c → (d : Bool) → p i ≡ d → (c || (d || false)) ≡ true → (j : ℕ) × (f : Located) × (slice_get xs j ≡ Some f) × (is_at page offset f ≡ true) × (p j ≡ true)
    by true c d f h = a.found p page offset c
    by false c true f h = (i, x, at, e, f)
    by false c false f h = absurd (true≢false (sym h))

  kept : (p : ℕ → Bool) (page offset j : ℕ) (f : Located) → slice_get xs j ≡ Some f → is_at page offset f ≡ true → p j ≡ true → (b : Bool) → is_at page offset x ≡ b → j < i + 1 → (j ≡ i) ⊎ (j ≡ i → ⊥)
      → list_any p (cond b (numbers_at old page offset ++ i ∷ []) (numbers_at old page offset)) ≡ true
  kept p page offset j f s q t true e l (inl same) =
      list_any-append p (numbers_at old page offset) (i ∷ []) ∙ or_right (list_any p (numbers_at old page offset)) (p i || false) (or_left (p i) false (ap p (sym same) ∙ t))
  kept p page offset j f s q t false e l (inl same) =
      absurd (true≢false (sym q ∙ ap (is_at page offset) (some-inj f x (sym s ∙ ap (slice_get xs) same ∙ at)) ∙ e))
  kept p page offset j f s q t true e l (inr d) =
      list_any-append p (numbers_at old page offset) (i ∷ []) ∙ or_left (list_any p (numbers_at old page offset)) (p i || false) (a.kept p page offset j f (omega (arith, l, d)) s q t)
  kept p page offset j f s q t false e l (inr d) = a.kept p page offset j f (omega (arith, l, d)) s q t

-- one mark more
pub inner-more : {S : Type 0} (m : IndexMap (ℕ × ℕ) (Vec ℕ Global) S) (ns : List (Option ℕ)) (first : ℕ) (xs : List Located) (i : ℕ) (x : Located) (b : Bool) (marks more : List Bool)
    → length marks ≡ i → AreInner ns first m xs i marks → slice_get xs i ≡ Some x → (b ≡ true) ↔ IsInner ns first m i x → more ≡ marks ++ b ∷ [] → AreInner ns first m xs (i + 1) more
inner-more m ns first xs i x b marks more len a at is grown = λ k e l s.
    ⊎_elim
    (λ (same : k ≡ i).
    let mark : is_marked more k ≡ b = ap (λ (ms : List Bool). is_marked ms k) grown ∙ ap (is_marked (marks ++ b ∷ [])) (same ∙ sym len) ∙ get_or-append_seam marks b [] false in
    let one : x ≡ e = some-inj x e (sym at ∙ ap (slice_get xs) (sym same) ∙ s) in
    let there : IsInner ns first m i x → IsInner ns first m k e = λ h. subst (λ j. IsInner ns first m j e) (sym same) (subst (λ y. IsInner ns first m i y) one h) in
    let back : IsInner ns first m k e → IsInner ns first m i x = λ h. subst (λ y. IsInner ns first m i y) (sym one) (subst (λ j. IsInner ns first m j e) same h) in
    ((λ h. there (is.0 (sym mark ∙ h))), (λ h. mark ∙ is.1 (back h))))
    (λ (d : k ≡ i → ⊥).
    let below : k < length marks = omega (arith, l, d, len) in
    let mark : is_marked more k ≡ is_marked marks k = ap (λ (ms : List Bool). is_marked ms k) grown ∙ get_or-append marks (b ∷ []) false k below in
    let old = a k e (omega (arith, l, d)) s in
    ((λ h. old.0 (sym mark ∙ h)), (λ h. mark ∙ old.1 h)))
    (cases_eq k i)

pub items-cond : (b : Bool) (v : Vec ℕ Global) (o : Option (Vec ℕ Global))
    → option_map_or (λ (w : Vec ℕ Global). w.items) (cond b (Some v) o) [] ≡ cond b v.items (option_map_or (λ (w : Vec ℕ Global). w.items) o [])
items-cond true v o = refl
items-cond false v o = refl

same-nat : (m n : ℕ) → (m == n) ≡ true → m ≡ n
same-nat m n e = eqb-true m n e

-- the numbers at a place, after one was put behind those at this place
pub entered-at : (f : ℕ → ℕ → List ℕ) (k l page offset : ℕ) (b : Bool) (here old : List ℕ) (i : ℕ) (new : List ℕ)
    → here ≡ f k l ++ i ∷ [] → ((k == page) && (l == offset)) ≡ b → (((k == page) && (l == offset)) ≡ false → old ≡ f page offset)
    → new ≡ cond ((k == page) && (l == offset)) here old → new ≡ cond ((k == page) && (l == offset)) (f page offset ++ i ∷ []) (f page offset)
entered-at f k l page offset true here old i new h e o n =
    let both = and_parts (k == page) (l == offset) e in
    n ∙ ap (λ c. cond c here old) e ∙ h ∙ (λ j. f (same-nat k page both.0 j) (same-nat l offset both.1 j) ++ i ∷ []) ∙ sym (ap (λ c. cond c (f page offset ++ i ∷ []) (f page offset)) e)
entered-at f k l page offset false here old i new h e o n =
    n ∙ ap (λ c. cond c here old) e ∙ o e ∙ sym (ap (λ c. cond c (f page offset ++ i ∷ []) (f page offset)) e)
