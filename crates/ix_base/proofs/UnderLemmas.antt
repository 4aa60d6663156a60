-- Declarations put over a scope: their order, and what a prefix is bound to.
use Rattle.std.proofs.Common.{◌≡◌, ℕ, Bool, true, false, ◌&&◌, not, if◌then◌else◌, List, [], ◌∷◌, map, filter, Option, Some, None, refl, sym, ap, ◌∙◌, subst, bytes_eq}
use Rattle.std.specs.Borrow.{Bor}
use Rattle.std.specs.List.{list_all}
use Rattle.std.proofs.lemmas.Slice.Eq.{bytes_eq-Decides}
use Rattle.ix_base.specs.declared.tree.Level.{Level, out-Level, roll-Level}
use Rattle.ix_base.specs.declared.tree.Level.TheFolds.{fold_out-Level, fold-roll-Level, ind-Level, map-Level}
use Rattle.ix_base.specs.declared.tree.Declared.{Declared}
use Rattle.ix_base.specs.Bindings.{Bound, bound, is_below, are_ordered}
use Rattle.ix_base.specs.Scope.{namespace_of, bound_as, bound_over, declared_over, scope_under}
use Rattle.ix_base.specs.declared.tree.Scope.{Scope}
use Rattle.ix_base.specs.Trees.{bindings_at, bindings_above, bindings_in}
use Rattle.ix_base.proofs.ScopeLemmas.{clash, and_left, and_right, either-below, same-order, all-behind, head-order, tail-order, none-before}

and_both : (a b : Bool) → a ≡ true → b ≡ true → (a && b) ≡ true
and_both a b p q = rw (p, q) refl

one-text : (p q : List ℕ) → bytes_eq p q ≡ true → p ≡ q
one-text p q e = (bytes_eq-Decides p q).0 e

same-text : (p : List ℕ) → bytes_eq p p ≡ true
same-text p = (bytes_eq-Decides p p).1 refl

abbrev behind : List ℕ → Bound → Bool
behind p x = is_below p x.prefix

module _ (q : Bound → Bool) where
  all-put : (x : Bound) (s : List Bound) → q x ≡ true → list_all q s ≡ true → list_all q (x ∷ s) ≡ true
  all-put x s a b = and_both (q x) (list_all q s) a b

  all-filtered : (r : Bound → Bool) (s : List Bound) → list_all q s ≡ true → list_all q (filter r s) ≡ true
  all-filtered r [] h = refl
  all-filtered r (x ∷ s) h = by_test (all-filtered r s (and_right (q x) (list_all q s) h)) (r x) where
    by_test : list_all q (filter r s) ≡ true → (b : Bool) → list_all q (if b then x ∷ filter r s else filter r s) ≡ true
    by_test ih true = all-put x (filter r s) (and_left (q x) (list_all q s) h) ih
    by_test ih false = ih

  all-over : (s : List Bound) (b : Bound) → q b ≡ true → list_all q s ≡ true → list_all q (bound_over s b) ≡ true
  all-over [] b k h = all-put b [] k refl
  all-over (x ∷ s) b k h = by_tests (all-over s b k tail) (bytes_eq x.prefix b.prefix) (is_below b.prefix x.prefix) where
    tail : list_all q s ≡ true
    tail = and_right (q x) (list_all q s) h

    by_tests : list_all q (bound_over s b) ≡ true → (e l : Bool) → list_all q (if e then b ∷ s else (if l then b ∷ x ∷ s else x ∷ bound_over s b)) ≡ true
    by_tests ih true l = all-put b s k tail
    by_tests ih false true = all-put b (x ∷ s) k h
    by_tests ih false false = all-put x (bound_over s b) (and_left (q x) (list_all q s) h) ih

-- order
ordered-put : (x : Bound) (s : List Bound) → list_all (behind x.prefix) s ≡ true → are_ordered s ≡ true → are_ordered (x ∷ s) ≡ true
ordered-put x s a o = and_both (list_all (behind x.prefix) s) (are_ordered s) a o

ordered-filter : (r : Bound → Bool) (s : List Bound) → are_ordered s ≡ true → are_ordered (filter r s) ≡ true
ordered-filter r [] h = refl
ordered-filter r (x ∷ s) h = by_test (ordered-filter r s (tail-order x s h)) (r x) where
  by_test : are_ordered (filter r s) ≡ true → (b : Bool) → are_ordered (if b then x ∷ filter r s else filter r s) ≡ true
  by_test ih true = ordered-put x (filter r s) (all-filtered (behind x.prefix) r s (head-order x s h)) ih
  by_test ih false = ih

pub ordered-over : (s : List Bound) (b : Bound) → are_ordered s ≡ true → are_ordered (bound_over s b) ≡ true
ordered-over [] b h = refl
ordered-over (x ∷ s) b h = by_tests (ordered-over s b (tail-order x s h)) (bytes_eq x.prefix b.prefix) (is_below b.prefix x.prefix) refl refl where
  by_tests : are_ordered (bound_over s b) ≡ true → (e l : Bool) → bytes_eq x.prefix b.prefix ≡ e → is_below b.prefix x.prefix ≡ l → are_ordered (if e then b ∷ s else (if l then b ∷ x ∷ s else x ∷ bound_over s b)) ≡ true
  by_tests ih true l e k =
      ordered-put b s (subst (λ p. list_all (behind p) s ≡ true) (one-text x.prefix b.prefix e) (head-order x s h)) (tail-order x s h)
  by_tests ih false true e k = ordered-put b (x ∷ s) (all-put (behind b.prefix) x s k (all-behind b.prefix x.prefix s k (head-order x s h))) h
  by_tests ih false false e k =
      ordered-put x (bound_over s b) (all-over (behind x.prefix) s b (either-below b.prefix x.prefix e k) (head-order x s h)) ih

ordered-declared : (s : List Bound) (b : Bound) → are_ordered s ≡ true → are_ordered (declared_over s b) ≡ true
ordered-declared s b h = by_test (bytes_eq b.prefix [] && bytes_eq b.ns []) where
  by_test : (t : Bool) → are_ordered (if t then filter (λ x. not (bytes_eq x.prefix [])) s else bound_over s b) ≡ true
  by_test true = ordered-filter (λ x. not (bytes_eq x.prefix [])) s h
  by_test false = ordered-over s b h

pub ordered-under : (bs s : List Bound) → are_ordered s ≡ true → are_ordered (scope_under s bs) ≡ true
ordered-under [] s h = h
ordered-under (b ∷ bs) s h = ordered-under bs (declared_over s b) (ordered-declared s b h)

-- what a prefix is bound to, over a binding of that prefix and of another
pub over-same : (s : List Bound) (b : Bound) (p : List ℕ) → b.prefix ≡ p → namespace_of (bound_over s b) p ≡ Some b.ns
over-same [] b p e = rw e (rw (same-text p) refl)
over-same (x ∷ s) b p e = by_tests (over-same s b p e) (bytes_eq x.prefix b.prefix) (is_below b.prefix x.prefix) refl where
  here : bytes_eq b.prefix p ≡ true
  here = ap (λ y. bytes_eq y p) e ∙ same-text p

  by_tests : namespace_of (bound_over s b) p ≡ Some b.ns → (t c : Bool) → bytes_eq x.prefix b.prefix ≡ t → namespace_of (if t then b ∷ s else (if c then b ∷ x ∷ s else x ∷ bound_over s b)) p ≡ Some b.ns
  by_tests ih true c q = rw here refl
  by_tests ih false true q = rw here refl
  by_tests ih false false q = let z : bytes_eq x.prefix p ≡ false = ap (bytes_eq x.prefix) (sym e) ∙ q in rw z ih

pub over-other : (s : List Bound) (b : Bound) (p : List ℕ) → bytes_eq b.prefix p ≡ false → namespace_of (bound_over s b) p ≡ namespace_of s p
over-other [] b p e = rw e refl
over-other (x ∷ s) b p e = by_tests (over-other s b p e) (bytes_eq x.prefix b.prefix) (is_below b.prefix x.prefix) refl where
  by_tests : namespace_of (bound_over s b) p ≡ namespace_of s p → (t c : Bool) → bytes_eq x.prefix b.prefix ≡ t → namespace_of (if t then b ∷ s else (if c then b ∷ x ∷ s else x ∷ bound_over s b)) p ≡ namespace_of (x ∷ s) p
  by_tests ih true c q =
      let z : bytes_eq x.prefix p ≡ false = ap (λ y. bytes_eq y p) (one-text x.prefix b.prefix q) ∙ e in rw (e, z) refl
  by_tests ih false true q = rw e refl
  by_tests ih false false q = ap (λ r. if bytes_eq x.prefix p then Some x.ns else r) ih

found-filter : (q : List ℕ → Bool) (s : List Bound) (p : List ℕ) → namespace_of (filter (λ x. q x.prefix) s) p ≡ (if q p then namespace_of s p else None)
found-filter q [] p = none (q p) where
  none : (b : Bool) → ◌≡◌ {A = Option (List ℕ)} None (if b then None else None)
  none true = refl
  none false = refl
found-filter q (x ∷ s) p = by_tests (found-filter q s p) (bytes_eq x.prefix p) (q x.prefix) (q p) refl refl refl where
  by_tests : namespace_of (filter (λ x. q x.prefix) s) p ≡ (if q p then namespace_of s p else None) → (e a b : Bool) → bytes_eq x.prefix p ≡ e → q x.prefix ≡ a → q p ≡ b
      → namespace_of (filter (λ x. q x.prefix) (x ∷ s)) p ≡ (if q p then namespace_of (x ∷ s) p else None)
  by_tests ih true true true e k l = rw (k, l, e) refl
  by_tests ih true true false e k l = clash (q p) (ap q (sym (one-text x.prefix p e)) ∙ k) l
  by_tests ih true false true e k l = clash (q p) l (ap q (sym (one-text x.prefix p e)) ∙ k)
  by_tests ih true false false e k l = let z : namespace_of (filter (λ x. q x.prefix) s) p ≡ None = rw l at ih in rw (k, l) z
  by_tests ih false true b e k l = rw (k, e) ih
  by_tests ih false false b e k l = rw (k, e) ih

pub found-declared : (s : List Bound) (b : Bound) (p : List ℕ) → namespace_of (declared_over s b) p ≡ (if bytes_eq b.prefix p then bound_as p b.ns else namespace_of s p)
found-declared s b p = by_tests (bytes_eq b.prefix p) (bytes_eq b.prefix [] && bytes_eq b.ns []) refl refl where
  by_tests : (e k : Bool) → bytes_eq b.prefix p ≡ e → (bytes_eq b.prefix [] && bytes_eq b.ns []) ≡ k
      → namespace_of (if k then filter (λ x. not (bytes_eq x.prefix [])) s else bound_over s b) p ≡ (if e then (if bytes_eq p [] && bytes_eq b.ns [] then None else Some b.ns) else namespace_of s p)
  by_tests true true e k =
      let one : b.prefix ≡ p = one-text b.prefix p e in
      let both : (bytes_eq p [] && bytes_eq b.ns []) ≡ true = ap (λ y. bytes_eq y [] && bytes_eq b.ns []) (sym one) ∙ k in
      let none : bytes_eq p [] ≡ true = and_left (bytes_eq p []) (bytes_eq b.ns []) both in
      let empty : bytes_eq b.ns [] ≡ true = and_right (bytes_eq p []) (bytes_eq b.ns []) both in
      found-filter (λ y. not (bytes_eq y [])) s p ∙ rw (none, empty) refl
  by_tests true false e k =
      let one : b.prefix ≡ p = one-text b.prefix p e in
      let both : (bytes_eq p [] && bytes_eq b.ns []) ≡ false = ap (λ y. bytes_eq y [] && bytes_eq b.ns []) (sym one) ∙ k in
      over-same s b p one ∙ rw both refl
  by_tests false true e k =
      let empty : b.prefix ≡ [] = one-text b.prefix [] (and_left (bytes_eq b.prefix []) (bytes_eq b.ns []) k) in
      let some : bytes_eq p [] ≡ false = same-order p [] ∙ ap (λ y. bytes_eq y p) (sym empty) ∙ e in
      found-filter (λ y. not (bytes_eq y [])) s p ∙ rw some refl
  by_tests false false e k = over-other s b p e

-- what a prefix is bound to where one declares this, over what it is bound to above
abbrev pub over : List ℕ → Option (List ℕ) → Option (List ℕ) → Option (List ℕ)
over p None above = above
over p (Some ns) above = bound_as p ns

pub found-under : (bs s : List Bound) (p : List ℕ) → are_ordered bs ≡ true → namespace_of (scope_under s bs) p ≡ over p (namespace_of bs p) (namespace_of s p)
found-under [] s p h = refl
found-under (b ∷ bs) s p h =
    found-under bs (declared_over s b) p (tail-order b bs h) ∙ ap (over p (namespace_of bs p)) (found-declared s b p) ∙ by_test (bytes_eq b.prefix p) refl where
      by_test : (e : Bool) → bytes_eq b.prefix p ≡ e
          → over p (namespace_of bs p) (if e then bound_as p b.ns else namespace_of s p) ≡ over p (if e then Some b.ns else namespace_of bs p) (namespace_of s p)
      by_test true e =
          let none : namespace_of bs p ≡ None = subst (λ q. namespace_of bs q ≡ None) (one-text b.prefix p e) (none-before b.prefix bs (head-order b bs h)) in
          rw none refl
      by_test false e = refl

-- scopes in order in which each prefix is bound to the same are one
pub one-scope : (a b : List Bound) → are_ordered a ≡ true → are_ordered b ≡ true → ((p : List ℕ) → namespace_of a p ≡ namespace_of b p) → a ≡ b
one-scope [] [] h k f = refl
one-scope [] (y ∷ b) h k f = let z : None ≡ Some y.ns = f y.prefix ∙ rw (same-text y.prefix) refl in absurd (cc)
one-scope (x ∷ a) [] h k f = let z : None ≡ Some x.ns = sym (f x.prefix) ∙ rw (same-text x.prefix) refl in absurd (cc)
one-scope (x ∷ a) (y ∷ b) h k f = by_order (λ g. one-scope a b (tail-order x a h) (tail-order y b k) g) (bytes_eq x.prefix y.prefix) (is_below y.prefix x.prefix) refl refl where
  first : (z : Bound) (s : List Bound) → namespace_of (z ∷ s) z.prefix ≡ Some z.ns
  first z s = rw (same-text z.prefix) refl

  missing : (z : Bound) (s : List Bound) (p : List ℕ) → is_below p z.prefix ≡ true → are_ordered (z ∷ s) ≡ true → namespace_of (z ∷ s) p ≡ None
  missing z s p l o = none-before p (z ∷ s) (all-put (behind p) z s l (all-behind p z.prefix s l (head-order z s o)))

  by_order : (((p : List ℕ) → namespace_of a p ≡ namespace_of b p) → a ≡ b) → (e l : Bool) → bytes_eq x.prefix y.prefix ≡ e → is_below y.prefix x.prefix ≡ l → x ∷ a ≡ y ∷ b
  by_order ih true l e q =
      let one : x.prefix ≡ y.prefix = one-text x.prefix y.prefix e in
      let spaces : Some x.ns ≡ Some y.ns = sym (first x a) ∙ f x.prefix ∙ ap (namespace_of (y ∷ b)) one ∙ first y b in
      let ns : x.ns ≡ y.ns = cc in
      let tails : a ≡ b = ih (λ p. rest p (bytes_eq x.prefix p) refl one) in
      let heads : x ≡ y = λ i. record { prefix = one i; ns = ns i } in λ i. heads i ∷ tails i where
        rest : (p : List ℕ) (t : Bool) → bytes_eq x.prefix p ≡ t → x.prefix ≡ y.prefix → namespace_of a p ≡ namespace_of b p
        rest p true m one =
            let at : x.prefix ≡ p = one-text x.prefix p m in
            subst (λ r. namespace_of a r ≡ None) at (none-before x.prefix a (head-order x a h))
            ∙ sym (subst (λ r. namespace_of b r ≡ None) (sym one ∙ at) (none-before y.prefix b (head-order y b k)))
        rest p false m one =
            let n : bytes_eq y.prefix p ≡ false = ap (λ r. bytes_eq r p) (sym one) ∙ m in let g : namespace_of (x ∷ a) p ≡ namespace_of (y ∷ b) p = f p in rw (m, n) at g
  by_order ih false true e q = let z : Some y.ns ≡ None = sym (first y b) ∙ sym (f y.prefix) ∙ missing x a y.prefix q h in absurd (cc)
  by_order ih false false e q = let z : Some x.ns ≡ None = sym (first x a) ∙ f x.prefix ∙ missing y b x.prefix (either-below y.prefix x.prefix e q) k in absurd (cc)

-- one level at a time
pub bindings-is : (s : Level) → bindings_at s ≡ scope_under (bindings_above (out-Level s).above) (map bound (out-Level s).own.list.now)
bindings-is s = by_above (out-Level s).above refl where
  by_above : (o : Option (Bor Level)) → (out-Level s).above ≡ o → bindings_at s ≡ scope_under (bindings_above (out-Level s).above) (map bound (out-Level s).own.list.now)
  by_above None e = rw (fold_out-Level, e) refl
  by_above (Some p) e = rw (fold_out-Level, e) refl

found-in : (s : Level) (p : List ℕ)
    → namespace_of (bindings_at s) p ≡ over p (namespace_of (map bound (out-Level s).own.list.now) p) (namespace_of (bindings_above (out-Level s).above) p)
found-in s p =
    ap (λ t. namespace_of t p) (bindings-is s) ∙ found-under (map bound (out-Level s).own.list.now) (bindings_above (out-Level s).above) p (out-Level s).own.ordered

-- what the code finds at a level, or passes
pub bound_here : (s : Level) (p ns : List ℕ) → Some ns ≡ namespace_of (map bound (out-Level s).own.list.now) p → namespace_of (bindings_at s) p ≡ bound_as p ns
bound_here s p ns e = found-in s p ∙ ap (λ o. over p o (namespace_of (bindings_above (out-Level s).above) p)) (sym e)

pub bound_above : (s : Level) (p : List ℕ) → None ≡ namespace_of (map bound (out-Level s).own.list.now) p
    → namespace_of (bindings_at s) p ≡ namespace_of (bindings_above (out-Level s).above) p
bound_above s p e = found-in s p ∙ ap (λ o. over p o (namespace_of (bindings_above (out-Level s).above) p)) (sym e)

-- what is bound at a level is in order
abbrev IsOrdered : Level → Type 0
IsOrdered s = are_ordered (bindings_at s) ≡ true

ordered-layer : (own : Declared) (above : Option (Bor ((s : Level) × IsOrdered s)))
    → IsOrdered (roll-Level (map-Level ((s : Level) × IsOrdered s) Level (λ e. e.0) (record { own = own; above = above })))
ordered-layer own None = rw fold-roll-Level (ordered-under (map bound own.list.now) [] refl)
ordered-layer own (Some p) = rw fold-roll-Level (ordered-under (map bound own.list.now) (bindings_at p.now.0) p.now.1)

pub ordered-in : (s : Level) → are_ordered (bindings_at s) ≡ true
ordered-in = ind-Level IsOrdered (λ x y is. subst (λ z. IsOrdered (roll-Level z)) is (ordered-layer y.own y.above))

pub ordered-scope : (s : Scope) → are_ordered (bindings_in s) ≡ true
ordered-scope s = by_level s.level where
  by_level : (o : Option (Bor Level)) → are_ordered (bindings_above o) ≡ true
  by_level None = refl
  by_level (Some l) = ordered-in l.now
