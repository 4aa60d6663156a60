-- Far numbers, one walk more: what is kept for the walks before stays.
use Rattle.std.proofs.Common.{◌≡◌, ◌∙◌, ◌<◌, ◌≤◌, ◌+◌, ◌++◌, ◌⊎◌, inl, inr, ℕ, Bool, true, false, cond, List, [], ◌∷◌, length, refl, ap, sym, Option, Some, None, arith, length-append}
use Rattle.std.proofs.Math.ListN.{get_or-append}
use Rattle.std.proofs.Math.Seq.{get_or-append_seam}
use Rattle.std.proofs.lemmas.Bool.Decides.{nat_tests}
use Rattle.std.specs.Int.{abs_diff}
use Rattle.std.specs.Prelude.{◌==◌, nat_lt, slice_index_or}
use Rattle.continuations.specs.declared.visits.Visit.{Visit}
use Rattle.continuations.specs.Visits.{merge_at}
use Rattle.continuations.specs.Depths.{depth_by, far_by, leap, AreLeaps}

below-of : (m n : ℕ) → nat_lt m n ≡ true → m < n
below-of m n h = grind (arith, nat_tests)

abbrev at : List ℕ → ℕ → ℕ
at xs k = slice_index_or xs k 0

-- lists that are alike below a number
abbrev Alike : List ℕ → List ℕ → ℕ → Type 0
Alike xs ys h = (k : ℕ) → k < h → at xs k ≡ at ys k

depth-alike : (o : Option Visit) (ds es : List ℕ) (h : ℕ) → Alike ds es h → depth_by o ds h ≡ depth_by o es h
depth-alike None ds es h a = refl
depth-alike (Some met) ds es h a = by (nat_lt met.walk h) refl where
  by : (b : Bool) → nat_lt met.walk h ≡ b → cond b (at ds met.walk + 1) 0 ≡ cond b (at es met.walk + 1) 0
  by true e = ap (λ n. n + 1) (a met.walk (below-of met.walk h e))
  by false e = refl

leap-alike : (ds es : List ℕ) (w f g : ℕ) → at ds w ≡ at es w → at ds f ≡ at es f → at ds g ≡ at es g → leap ds w f g ≡ leap es w f g
leap-alike ds es w f g p q r = λ i. cond (abs_diff (p i) (q i) == abs_diff (q i) (r i)) g w

far-alike : (o : Option Visit) (ds es fs gs : List ℕ) (h : ℕ) → Alike ds es h → Alike fs gs h → ((k : ℕ) → k < h → at fs k ≤ k)
    → far_by o fs ds h ≡ far_by o gs es h
far-alike None ds es fs gs h a b early = refl
far-alike (Some met) ds es fs gs h a b early = by (nat_lt met.walk h) refl where
  by : (c : Bool) → nat_lt met.walk h ≡ c
      → cond c (leap ds met.walk (at fs met.walk) (at fs (at fs met.walk))) h ≡ cond c (leap es met.walk (at gs met.walk) (at gs (at gs met.walk))) h
  by true e =
      let w = met.walk in
      let low = below-of w h e in
      let f = at fs w in
      let first = early w low in
      let near : f < h = omega (arith, low, first) in
      let second = early f near in
      let far : at fs f < h = omega (arith, near, second) in
      let p = b w low in
      let q : at fs f ≡ at gs (at gs w) = b f near ∙ ap (at gs) p in
      leap-alike ds es w f (at fs f) (a w low) (a f near) (a (at fs f) far) ∙ (λ i. leap es w (p i) (q i))
  by false e = refl

either : (h i : ℕ) → h < i + 1 → (h < i) ⊎ (h ≡ i)
either h i l = grind arith

pub leaps-more : (visits : List (Option Visit)) (meets : List (Option ℕ)) (i d f : ℕ) (ds es fs gs : List ℕ) → AreLeaps visits meets ds fs
    → ((k : ℕ) → k < length fs → at fs k ≤ k) → length ds ≡ i → length fs ≡ i
    → d ≡ depth_by (merge_at visits meets i) ds i → f ≡ far_by (merge_at visits meets i) fs ds i
    → es ≡ ds ++ d ∷ [] → gs ≡ fs ++ f ∷ [] → AreLeaps visits meets es gs
leaps-more visits meets i d f ds es fs gs m early n k deep far grown more = record {
  alike = size-d ∙ sym size-f;
  deep = λ h l. deep-at h (either h i (omega (arith, l, size-f)));
  far = λ h l. far-at h (either h i (omega (arith, l, size-f)));
} where
  size-d : length es ≡ i + 1
  size-d = ap length grown ∙ length-append ds (d ∷ []) ∙ omega (arith, n)

  size-f : length gs ≡ i + 1
  size-f = ap length more ∙ length-append fs (f ∷ []) ∙ omega (arith, k)

  old-d : (h : ℕ) → h < i → at es h ≡ at ds h
  old-d h l = ap (λ xs. at xs h) grown ∙ get_or-append ds (d ∷ []) 0 h (omega (arith, l, n))

  old-f : (h : ℕ) → h < i → at gs h ≡ at fs h
  old-f h l = ap (λ xs. at xs h) more ∙ get_or-append fs (f ∷ []) 0 h (omega (arith, l, k))

  new-d : (h : ℕ) → h ≡ i → at es h ≡ d
  new-d h e = ap (λ xs. at xs h) grown ∙ ap (at (ds ++ d ∷ [])) (e ∙ sym n) ∙ get_or-append_seam ds d [] 0

  new-f : (h : ℕ) → h ≡ i → at gs h ≡ f
  new-f h e = ap (λ xs. at xs h) more ∙ ap (at (fs ++ f ∷ [])) (e ∙ sym k) ∙ get_or-append_seam fs f [] 0

  alike-d : (h : ℕ) → h ≤ i → Alike ds es h
  alike-d h l = λ j b. sym (old-d j (omega (arith, l, b)))

  alike-f : (h : ℕ) → h ≤ i → Alike fs gs h
  alike-f h l = λ j b. sym (old-f j (omega (arith, l, b)))

  early-to : (h : ℕ) → h ≤ i → (j : ℕ) → j < h → at fs j ≤ j
  early-to h l j b = early j (omega (arith, l, b, k))

  deep-at : (h : ℕ) → (h < i) ⊎ (h ≡ i) → at es h ≡ depth_by (merge_at visits meets h) es h
  deep-at h (inl l) = old-d h l ∙ m.deep h (omega (arith, l, k)) ∙ depth-alike (merge_at visits meets h) ds es h (alike-d h (omega (arith, l)))
  deep-at h (inr e) =
      new-d h e ∙ deep ∙ (λ j. depth_by (merge_at visits meets (sym e j)) ds (sym e j))
      ∙ depth-alike (merge_at visits meets h) ds es h (alike-d h (omega (arith, e)))

  far-at : (h : ℕ) → (h < i) ⊎ (h ≡ i) → at gs h ≡ far_by (merge_at visits meets h) gs es h
  far-at h (inl l) =
      old-f h l ∙ m.far h (omega (arith, l, k))
      ∙ far-alike (merge_at visits meets h) ds es fs gs h (alike-d h (omega (arith, l))) (alike-f h (omega (arith, l))) (early-to h (omega (arith, l)))
  far-at h (inr e) =
      new-f h e ∙ far ∙ (λ j. far_by (merge_at visits meets (sym e j)) fs ds (sym e j))
      ∙ far-alike (merge_at visits meets h) ds es fs gs h (alike-d h (omega (arith, e))) (alike-f h (omega (arith, e))) (early-to h (omega (arith, e)))
