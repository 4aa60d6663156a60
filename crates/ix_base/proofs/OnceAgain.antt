-- A text that stands behind itself counts once.
use Rattle.std.proofs.Common.{◌≡◌, ◌++◌, List, [], ◌∷◌, ℕ, suc, ◌-◌, length, slice_get, Option, Some, None, map, refl, sym, ap, ◌∙◌, subst, arith}
use Rattle.std.specs.declared.cmp.Ordering.{Ordering}
use Rattle.std.specs.declared.cmp.Ordering.TheVariants.{Less, Equal, Greater}
use Rattle.ix_base.specs.Once.{put_by, put, in_order}

abbrev held : {A : Type 0} → A → Option A → A
held a None = a
held a (Some b) = b

module _ {X : Type 0} (R : X → X → Ordering) (x : X) (same : R x x ≡ Equal) where
  by-same : (o : Ordering) (z : X) (zs behind : List X) → o ≡ Equal → put_by o x z zs behind ≡ (z ∷ zs)
  by-same Less z zs behind e = let f : Less ≡ Equal = e in cc
  by-same Equal z zs behind e = refl
  by-same Greater z zs behind e = let f : Greater ≡ Equal = e in cc

  put-by-again : (o : Ordering) (z : X) (zs : List X) → R x z ≡ o → put R x (put R x zs) ≡ put R x zs
      → put R x (put_by o x z zs (put R x zs)) ≡ put_by o x z zs (put R x zs)
  put-by-again Less z zs e h = by-same (R x x) x (z ∷ zs) (put R x (z ∷ zs)) same
  put-by-again Equal z zs e h = by-same (R x z) z zs (put R x zs) e
  put-by-again Greater z zs e h = ap (λ o. put_by o x z (put R x zs) (put R x (put R x zs))) e ∙ ap (λ l. z ∷ l) h

  pub put_again : (zs : List X) → put R x (put R x zs) ≡ put R x zs
  put_again [] = by-same (R x x) x [] (x ∷ []) same
  put_again (z ∷ zs) = put-by-again (R x z) z zs refl (put_again zs)

  -- where it is the last of a list of which the texts are read
  module _ {A : Type 0} (f : A → X) where
    pub in_order_again : (items : List A) (last : A) (rest : List X) → slice_get items (length items - 1) ≡ Some last → f last ≡ x
        → in_order R (map f items ++ rest) ≡ in_order R (map f items ++ x ∷ rest)
    unfolding in_order
    in_order_again [] last rest e h = let apart : None ≡ Some last = e in cc
    in_order_again (a ∷ []) last rest e h =
        let one : a ≡ last = ap (held a) e in
        subst (λ y. put R y (in_order R rest) ≡ put R y (put R x (in_order R rest))) (sym (ap f one ∙ h)) (sym (put_again (in_order R rest)))
    in_order_again (a ∷ b ∷ more) last rest e h =
        let at : suc (suc (length more)) - 1 ≡ suc (suc (length more) - 1) = omega arith in
        ap (put R (f a)) (in_order_again (b ∷ more) last rest (sym (ap (slice_get (a ∷ b ∷ more)) at) ∙ e) h)

-- a list behind one that has grown by one
pushed-on : {A X : Type 0} (f : A → X) (a : A) (rest : List X) (front : List A)
    → (map f (front ++ a ∷ []) ++ rest) ≡ (map f front ++ f a ∷ rest)
pushed-on f a rest [] = refl
pushed-on f a rest (b ∷ front) = ap (λ l. f b ∷ l) (pushed-on f a rest front)

pub pushed : {A X : Type 0} (f : A → X) (new old : List A) (a : A) (rest : List X) → new ≡ (old ++ a ∷ [])
    → (map f new ++ rest) ≡ (map f old ++ f a ∷ rest)
pushed f new old a rest e = ap (λ l. map f l ++ rest) e ∙ pushed-on f a rest old
