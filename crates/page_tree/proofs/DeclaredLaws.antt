-- Of what a tag declares, each prefix once leaves the scope that all leave one after another.
use Rattle.std.proofs.Common.{◌≡◌, ℕ, Bool, true, false, if◌then◌else◌, List, [], ◌∷◌, ◌++◌, map, length, append_assoc, arith, Some, refl, sym, ap, ◌∙◌, bytes_eq}
use Rattle.std.specs.Borrow.{Bor}
use Rattle.ix_base.specs.Bindings.{Bound, are_ordered}
use Rattle.ix_base.specs.Scope.{namespace_of, bound_as, bound_over, declared_over, scope_under}
use Rattle.ix_base.proofs.UnderLemmas.{over, over-same, over-other, found-declared, found-under, ordered-over, ordered-under, one-scope}
use Rattle.page_tree.specs.Orders.{bound_under, entered}
use Rattle.page_constructs.proofs.SpanLaws.{bytes-one}

ordered-bound : (bs s : List Bound) → are_ordered s ≡ true → are_ordered (bound_under s bs) ≡ true
ordered-bound [] s h = h
ordered-bound (b ∷ bs) s h = ordered-bound bs (bound_over s b) (ordered-over s b h)

-- what a prefix is bound to in them
found-over : (s : List Bound) (b : Bound) (p : List ℕ) → namespace_of (bound_over s b) p ≡ (if bytes_eq b.prefix p then Some b.ns else namespace_of s p)
found-over s b p = by_test (bytes_eq b.prefix p) refl where
  by_test : (e : Bool) → bytes_eq b.prefix p ≡ e → namespace_of (bound_over s b) p ≡ (if e then Some b.ns else namespace_of s p)
  by_test true e = over-same s b p (bytes-one b.prefix p e)
  by_test false e = over-other s b p e

found-bound : (bs t cs s : List Bound) (p : List ℕ) → namespace_of t p ≡ over p (namespace_of cs p) (namespace_of s p)
    → namespace_of (scope_under t bs) p ≡ over p (namespace_of (bound_under cs bs) p) (namespace_of s p)
found-bound [] t cs s p h = h
found-bound (b ∷ bs) t cs s p h =
    found-bound bs (declared_over t b) (bound_over cs b) s p
    (found-declared t b p ∙ step (bytes_eq b.prefix p) ∙ ap (λ o. over p o (namespace_of s p)) (sym (found-over cs b p))) where
      step : (e : Bool) → (if e then bound_as p b.ns else namespace_of t p) ≡ over p (if e then Some b.ns else namespace_of cs p) (namespace_of s p)
      step true = refl
      step false = h

-- what a tag declares, each prefix once
module _ (es : List (Bor (List ℕ) × Bor (List ℕ))) (bs : List Bound) (d : map entered es ≡ bound_under [] bs) where
  pub ordered-once : are_ordered (map entered es) ≡ true
  ordered-once = ap are_ordered d ∙ ordered-bound bs [] refl

  pub under-once : (s : List Bound) → are_ordered s ≡ true → scope_under s (map entered es) ≡ scope_under s bs
  under-once s h =
      one-scope (scope_under s (map entered es)) (scope_under s bs) (ordered-under (map entered es) s h) (ordered-under bs s h)
      (λ p. found-under (map entered es) s p ordered-once ∙ ap (λ cs. over p (namespace_of cs p) (namespace_of s p)) d ∙ sym (found-bound bs s [] s p refl))

-- one more of the declarations is kept
pub entered-more : (before more : List Bound) (e : Bor (List ℕ) × Bor (List ℕ)) (left rest : List (Bor (List ℕ) × Bor (List ℕ))) (all : List Bound)
    → more ≡ before ++ entered e ∷ [] → left ≡ e ∷ rest → before ++ map entered left ≡ all → more ++ map entered rest ≡ all
entered-more before more e left rest all m l h =
    ap (λ xs. xs ++ map entered rest) m ∙ append_assoc before (entered e ∷ []) (map entered rest) ∙ ap (λ es. before ++ map entered es) (sym l) ∙ h

-- without declarations
pub under-none : (s : List Bound) (es : List (Bor (List ℕ) × Bor (List ℕ))) → length es ≡ 0 → s ≡ scope_under s (map entered es)
under-none s [] e = refl
under-none s (x ∷ es) e = absurd (omega arith)
