-- What the grammar of numbers with a decimal sign relates is read.
use Rattle.std.proofs.Common.{◌≡◌, ◌≢◌, ℕ, IsTrue, List, [], ◌∷◌, ◌++◌, Option, Some, None, refl, sym, ap, ◌∙◌, inl, inr, append_assoc}
use Rattle.std.proofs.lemmas.List.{append-nil}
use Rattle.tr4_numbers.specs.declared.NumberFormat.{NumberFormat}
use Rattle.tr4_numbers.specs.declared.reader.Phase.TheVariants.{Start, Whole, Pause, Gap, Point, Fraction, End}
use Rattle.tr4_numbers.specs.Transformation.{is_digit, AreDropped, IsGap, AreDigits, Follow, Grouped, IsWhole, IsPointed, IsBare, IsDecimal, IsBetween}
use Rattle.tr4_numbers.specs.Readers.{with_front, read}
use Rattle.tr4_numbers.proofs.Sorts.{sort-digit, sort-dropped, sort-gap, sort-decimal_sign}

pub front-nil : (o : Option (List ℕ)) → with_front [] o ≡ o
front-nil None = refl
front-nil (Some xs) = refl

pub front-front : (xs ys : List ℕ) (o : Option (List ℕ)) → with_front xs (with_front ys o) ≡ with_front (xs ++ ys) o
front-front xs ys None = refl
front-front xs ys (Some zs) = ap Some (sym (append_assoc xs ys zs))

end-dropped : (f : NumberFormat) (cs : List ℕ) → AreDropped cs → read f cs End ≡ Some []
end-dropped f [] d = refl
end-dropped f (c ∷ cs) d = elim (sort-dropped f c d.0) [
  | inl e ↦ rw (e, end-dropped f cs d.1) refl
  | inr e ↦ rw (e, end-dropped f cs d.1) refl
]

fraction-dropped : (f : NumberFormat) (cs : List ℕ) → AreDropped cs → read f cs Fraction ≡ Some []
fraction-dropped f [] d = refl
fraction-dropped f (c ∷ cs) d = elim (sort-dropped f c d.0) [
  | inl e ↦ rw (e, end-dropped f cs d.1) refl
  | inr e ↦ rw (e, end-dropped f cs d.1) refl
]

pause-dropped : (f : NumberFormat) (cs : List ℕ) → AreDropped cs → read f cs Pause ≡ Some []
pause-dropped f [] d = refl
pause-dropped f (c ∷ cs) d = elim (sort-dropped f c d.0) [
  | inl e ↦ rw (e, pause-dropped f cs d.1) refl
  | inr e ↦ rw (e, end-dropped f cs d.1) refl
]

whole-dropped : (f : NumberFormat) (cs : List ℕ) → AreDropped cs → read f cs Whole ≡ Some []
whole-dropped f [] d = refl
whole-dropped f (c ∷ cs) d = elim (sort-dropped f c d.0) [
  | inl e ↦ rw (e, pause-dropped f cs d.1) refl
  | inr e ↦ rw (e, end-dropped f cs d.1) refl
]

fraction-read : (f : NumberFormat) (back after : List ℕ) → AreDigits back → AreDropped after → read f (back ++ after) Fraction ≡ Some back
fraction-read f [] after d e = fraction-dropped f after e
fraction-read f (c ∷ cs) after d e = rw (sort-digit f c d.0, fraction-read f cs after d.1 e) refl

point-read : (f : NumberFormat) (back after : List ℕ) → back ≢ [] → AreDigits back → AreDropped after → read f (back ++ after) Point ≡ Some back
point-read f [] after n d e = absurd (n refl)
point-read f (c ∷ cs) after n d e = rw (sort-digit f c d.0, fraction-read f cs after d.1 e) refl

gap-read : (f : NumberFormat) (gap rest : List ℕ) (d : ℕ) → IsGap f gap → IsTrue (is_digit d) → read f (gap ++ d ∷ rest) Gap ≡ with_front (d ∷ []) (read f rest Whole)
gap-read f [] rest d g h = rw (sort-digit f d h) refl
gap-read f (c ∷ cs) rest d g h = elim (sort-gap f c g.0) [
  | inl e ↦ rw (e, gap-read f cs rest d g.1 h) (front-nil _)
  | inr e ↦ rw (e, gap-read f cs rest d g.1 h) (front-nil _)
]

pause-read : (f : NumberFormat) (gap rest : List ℕ) (d : ℕ) → IsGap f gap → IsTrue (is_digit d) → read f (gap ++ d ∷ rest) Pause ≡ with_front (d ∷ []) (read f rest Whole)
pause-read f [] rest d g h = rw (sort-digit f d h) refl
pause-read f (c ∷ cs) rest d g h = elim (sort-gap f c g.0) [
  | inl e ↦ rw (e, pause-read f cs rest d g.1 h) (front-nil _)
  | inr e ↦ rw (e, gap-read f cs rest d g.1 h) (front-nil _)
]

whole-read : (f : NumberFormat) (gap rest : List ℕ) (d : ℕ) → IsGap f gap → IsTrue (is_digit d) → read f (gap ++ d ∷ rest) Whole ≡ with_front (d ∷ []) (read f rest Whole)
whole-read f [] rest d g h = rw (sort-digit f d h) refl
whole-read f (c ∷ cs) rest d g h = elim (sort-gap f c g.0) [
  | inl e ↦ rw (e, pause-read f cs rest d g.1 h) (front-nil _)
  | inr e ↦ rw (e, gap-read f cs rest d g.1 h) (front-nil _)
]

follow-read : (f : NumberFormat) (ds text tail : List ℕ) → Follow f ds text → read f (text ++ tail) Whole ≡ with_front ds (read f tail Whole)
follow-read f [] text tail h = rw h (sym (front-nil _))
follow-read f (d ∷ ds) text tail (gap, rest, g, digit, e, more) =
    let k = follow-read f ds rest tail more in
    rw (e, append_assoc gap (d ∷ rest) tail, whole-read f gap (rest ++ tail) d g digit, k) (front-front (d ∷ []) ds (read f tail Whole))

grouped-read : (f : NumberFormat) (ds text tail : List ℕ) → Grouped f ds text → read f (text ++ tail) Start ≡ with_front ds (read f tail Whole)
grouped-read f [] text tail h = elim h [ ]
grouped-read f (d ∷ ds) text tail (rest, digit, e, more) =
    let k = follow-read f ds rest tail more in
    rw (e, sort-digit f d digit, k) (front-front (d ∷ []) ds (read f tail Whole))

pub start-read : (f : NumberFormat) (before cs : List ℕ) → AreDropped before → read f (before ++ cs) Start ≡ read f cs Start
start-read f [] cs d = refl
start-read f (c ∷ bs) cs d = elim (sort-dropped f c d.0) [
  | inl e ↦ rw (e, start-read f bs cs d.1) (front-nil _)
  | inr e ↦ rw (e, start-read f bs cs d.1) (front-nil _)
]

whole-value : (f : NumberFormat) (text after v : List ℕ) → AreDropped after → IsWhole f text v → read f (text ++ after) Start ≡ Some v
whole-value f text after v d w = grouped-read f v text after w.grouped ∙ (rw (whole-dropped f after d) (ap Some (append-nil v)))

pointed-value : (f : NumberFormat) (text after v : List ℕ) → AreDropped after → IsPointed f text v → read f (text ++ after) Start ≡ Some v
pointed-value f text after v d w =
    let p = point-read f w.back after w.some w.fraction d in
    let t : read f (w.sign ∷ (w.back ++ after)) Whole ≡ Some (46 ∷ w.back) = rw (sort-decimal_sign f w.sign w.is_sign, p) refl in
    rw (w.text_is, append_assoc w.spelled (w.sign ∷ w.back) after, grouped-read f w.digits w.spelled (w.sign ∷ (w.back ++ after)) w.grouped, t, w.value_is) refl

bare-value : (f : NumberFormat) (text after v : List ℕ) → AreDropped after → IsBare f text v → read f (text ++ after) Start ≡ Some v
bare-value f text after v d w =
    let p = point-read f w.back after w.some w.fraction d in
    rw (w.text_is, sort-decimal_sign f w.sign w.is_sign, p, w.value_is) refl

-- a number with a decimal sign is read
pub complete-decimal : (f : NumberFormat) (text v : List ℕ) → IsBetween (IsDecimal f) text v → read f text Start ≡ Some v
complete-decimal f text v w =
    rw (w.parts, start-read f w.before (w.number ++ w.after) w.dropped_before)
    (elim w.row [
      | inl k ↦ whole-value f w.number w.after v w.dropped_after k
      | inr r ↦ elim r [
        | inl k ↦ pointed-value f w.number w.after v w.dropped_after k
        | inr k ↦ bare-value f w.number w.after v w.dropped_after k
      ]
    ])
