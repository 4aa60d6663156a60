-- Values whose bytes mean themselves.
use Rattle.std.proofs.Common.{◌≡◌, ℕ, ◌==◌, Bool, false, ◌||◌, List, [], ◌∷◌, ◌++◌, Some, refl, sym, ap, ◌∙◌, append-nil}
use Rattle.page_constructs.specs.Forms.{has}
use Rattle.page_constructs.specs.Meanings.{before, from, quoted}
use Rattle.page_constructs.specs.Stops.{is_odd, is_special}
use Rattle.page_constructs.specs.Values.{value_of}
use Rattle.page_constructs.proofs.Parting.{closed-some, none-has}
use Rattle.page_constructs.proofs.SpanLaws.{NoneStops, or_left, or_right, before-none, before-span, from-span, before-from}
use Rattle.page_constructs.proofs.ValueLaws.{after-end, with-none}

none-fewer : (f g : ℕ → Bool) → ((c : ℕ) → f c ≡ false → g c ≡ false) → (t : List ℕ) → NoneStops f t → NoneStops g t
none-fewer f g h [] n = tt
none-fewer f g h (c ∷ t) n = (h c n.0, none-fewer f g h t n.1)

-- nothing in it is written for something else
own-value : (t : List ℕ) → NoneStops is_special t → value_of t ≡ Some t
own-value t n =
    let whole : before is_special t ≡ t = ap (before is_special) (sym (append-nil t)) ∙ before-span is_special t [] n tt in
    let none : from is_special t ≡ [] = ap (from is_special) (sym (append-nil t)) ∙ from-span is_special t [] n tt in
    sym (ap Some (sym whole) ∙ after-end [] t none ∙ with-none (value_of t))

-- what stands before the first odd byte of a text
module _ (t : List ℕ) where
  odd : NoneStops is_odd (before is_odd t)
  odd = before-none is_odd t

  pub own-meant : value_of (before is_odd t) ≡ Some (before is_odd t)
  own-meant =
      own-value (before is_odd t) (none-fewer is_odd is_special (λ c n. or_right (c == 34 || c == 60) (is_special c) n) (before is_odd t) odd)

  pub own-open : has 60 (before is_odd t) ≡ false
  own-open =
      none-has 60 (before is_odd t)
      (none-fewer is_odd (λ c. c == 60) (λ c n. or_right (c == 34) (c == 60) (or_left (c == 34 || c == 60) (is_special c) n)) (before is_odd t) odd)

  -- where that is the quote, it closes the value
  pub own-closed : (text more : List ℕ) → text ≡ 34 ∷ t → from is_odd t ≡ 34 ∷ more → Some (before is_odd t, more) ≡ quoted text
  own-closed text more front back =
      let apart = none-fewer is_odd (λ c. c == 34) (λ c n. or_left (c == 34) (c == 60) (or_left (c == 34 || c == 60) (is_special c) n)) (before is_odd t) odd in
      let splits : t ≡ before is_odd t ++ 34 ∷ more = before-from is_odd t ∙ ap (λ x. before is_odd t ++ x) back in
      let raw : before is_odd t ≡ before (λ c. c == 34) t = sym (ap (before (λ c. c == 34)) splits ∙ before-span (λ c. c == 34) (before is_odd t) (34 ∷ more) apart refl) in
      let behind : 34 ∷ more ≡ from (λ c. c == 34) t = sym (ap (from (λ c. c == 34)) splits ∙ from-span (λ c. c == 34) (before is_odd t) (34 ∷ more) apart refl) in
      closed-some 34 text t (before is_odd t) (34 ∷ more) more refl front raw behind refl
