-- Of those with one text the first, one more at a time.
use Rattle.std.proofs.Common.{◌≡◌, ◌∙◌, ap, refl, ℕ, Bool, true, false, cond, List, [], ◌∷◌, ◌++◌}
use Rattle.std.specs.Prelude.{bytes_eq, not, filter, ◌||◌}
use Rattle.std.specs.List.{list_any}
use Rattle.std.proofs.lemmas.List.Elements.{filter-append}
use Rattle.instance_lines.specs.Arrangement.{firsts}

module _ {X : Type 0} (f : X → List ℕ) where
  one_kept : (p : X → Bool) (b a : Bool) (x : X) → p x ≡ not b → filter p (cond a [] (x ∷ [])) ≡ cond (b || a) [] (x ∷ [])
  one_kept p true true x e = refl
  one_kept p false true x e = refl
  one_kept p true false x e = ap (λ q. cond q (x ∷ []) []) e
  one_kept p false false x e = ap (λ q. cond q (x ∷ []) []) e

  -- whether one of these has its text
  abbrev pub has_text : List X → List ℕ → Bool
  has_text xs t = list_any (λ y. bytes_eq (f y) t) xs

  pub firsts-push : (xs : List X) (x : X) → firsts f (xs ++ x ∷ []) ≡ firsts f xs ++ cond (has_text xs (f x)) [] (x ∷ [])
  firsts-push [] x = refl
  firsts-push (y ∷ ys) x =
      let p : X → Bool = λ z. not (bytes_eq (f y) (f z)) in
      let a = has_text ys (f x) in
      ap (λ l. y ∷ filter p l) (firsts-push ys x)
      ∙ ap (λ l. y ∷ l) (filter-append p (firsts f ys) (cond a [] (x ∷ []))
      ∙ ap (λ l. filter p (firsts f ys) ++ l) (one_kept p (bytes_eq (f y) (f x)) a x refl))

  either : (b a c : Bool) → (b || cond c true a) ≡ cond c true (b || a)
  either true a true = refl
  either true a false = refl
  either false a c = refl

  pub has_text-push : (xs : List X) (x : X) (t : List ℕ) → has_text (xs ++ x ∷ []) t ≡ cond (bytes_eq (f x) t) true (has_text xs t)
  has_text-push [] x t = end (bytes_eq (f x) t)
    where
      end : (b : Bool) → (b || false) ≡ cond b true false
      end true = refl
      end false = refl
  has_text-push (y ∷ ys) x t =
      ap (λ a. bytes_eq (f y) t || a) (has_text-push ys x t) ∙ either (bytes_eq (f y) t) (has_text ys t) (bytes_eq (f x) t)
