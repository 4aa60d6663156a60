-- What is read is related by the format.
use Rattle.std.proofs.Common.{◌≡◌, ◌≢◌, ℕ, ◌⊎◌, List, [], ◌∷◌, ◌++◌, Option, Some, None, refl, sym, ap, ◌∙◌, inl, inr}
use Rattle.tr4_numbers.specs.declared.NumberFormat.{NumberFormat}
use Rattle.tr4_numbers.specs.declared.NumberFormat.TheVariants as N
use Rattle.tr4_numbers.specs.declared.reader.Sort.{Sort}
use Rattle.tr4_numbers.specs.declared.reader.Sort.TheVariants as S
use Rattle.tr4_numbers.specs.declared.reader.Phase.{Phase}
use Rattle.tr4_numbers.specs.declared.reader.Phase.TheVariants.{Start, Whole, Pause, Gap, Point, Fraction, End, Lead, Sum, Word, Cent, Tail}
use Rattle.tr4_numbers.specs.Transformation.{AreDropped, IsDecimal, AreOthers, IsUnits, IsBetween, IsValue}
use Rattle.tr4_numbers.specs.Readers.{sort_of, first, next, added, with_front, read_by, read}
use Rattle.tr4_numbers.proofs.Sorts.{Known, known, left, right, line-parts, decimal_sign-parts}
use Rattle.tr4_numbers.proofs.SoundDecimal.{Rests, done, pointed, Gaps, Fractions, rests-gaps, wider, at_digit, digit-fraction, no_digits, first_digit, first_sign, first_dropped}
use Rattle.tr4_numbers.proofs.SoundUnits.{Cents, Sums, Seconds, lead_digit, lead_dropped, next_digit, next_part, next_word, next_other, first_cent, one_cent, two_cents, last_cent}

-- what the rest of the text is, and what it gives, in each phase
abbrev pub Reads : NumberFormat → Phase → List ℕ → List ℕ → Type 0
Reads f Start cs v = IsBetween (IsDecimal f) cs v
Reads f Whole cs v = Rests f cs v
Reads f Pause cs v = Gaps f cs v ⊎ (AreDropped cs × (v ≡ []))
Reads f Gap cs v = Gaps f cs v
Reads f Point cs v = (v ≢ []) × Fractions cs v
Reads f Fraction cs v = Fractions cs v
Reads f End cs v = AreDropped cs × (v ≡ [])
Reads f Lead cs v = IsBetween (IsUnits f) cs v
Reads f Sum cs v = Sums f cs v
Reads f Word cs v = Cents cs v
Reads f (Cent d) cs v = Seconds d cs v
Reads f Tail cs v = AreOthers cs × (v ≡ [])

no : (v : List ℕ) → None ≡ Some v → ⊥
no v e = cc

-- what is read with a front
inverted : (xs : List ℕ) (o : Option (List ℕ)) (v : List ℕ) → with_front xs o ≡ Some v → (w : List ℕ) × (o ≡ Some w) × (v ≡ xs ++ w)
inverted xs None v e = absurd (no v e)
inverted xs (Some w) v e = (w, refl, let k : xs ++ w ≡ v = cc in sym k)

-- what a step leaves to show
abbrev pub Step : NumberFormat → ℕ → List ℕ → List ℕ → Phase → Option Phase → List ℕ → Type 0
Step f c cs v p None xs = Unit {0}
Step f c cs v p (Some q) xs = (w : List ℕ) → v ≡ xs ++ w → Reads f q cs w → Reads f p (c ∷ cs) v

step-Start : (f : NumberFormat) (c : ℕ) (cs v : List ℕ) (s : Sort) → Known f c s → Step f c cs v Start (next Start s c) (added Start s c)
step-Start f c cs v S.Digit h = λ w e r. rw e (first_digit f c cs w h r)
step-Start f c cs v S.Space h = λ w e r. rw e (first_dropped f c cs w (left _ _ h.1) r)
step-Start f c cs v S.Line h = λ w e r. rw e (first_dropped f c cs w (right _ _ h.1) r)
step-Start f c cs v S.DecimalSign h = λ w e r. rw e (first_sign f c cs w h.1 r.0 r.1)
step-Start f c cs v S.GroupSign h = tt
step-Start f c cs v S.Other h = tt

step-Whole : (f : NumberFormat) (c : ℕ) (cs v : List ℕ) (s : Sort) → Known f c s → Step f c cs v Whole (next Whole s c) (added Whole s c)
step-Whole f c cs v S.Digit h = λ w e r. rw e (rests-gaps f (c ∷ cs) (c ∷ w) (at_digit f c cs w h r))
step-Whole f c cs v S.Space h = λ w e r. rw e (elim r [
  | inl g ↦ rests-gaps f (c ∷ cs) w (wider f c cs w (left _ _ h.1) g)
  | inr d ↦ done (c ∷ cs) w (left _ _ h.1, d.0) d.1
])
step-Whole f c cs v S.Line h = λ w e r. rw e (done (c ∷ cs) w (right _ _ h.1, r.0) r.1)
step-Whole f c cs v S.DecimalSign h = λ w e r. pointed (c ∷ cs) v w r.1.after c h.1 r.0 r.1.digits r.1.dropped (ap (λ xs. c ∷ xs) r.1.text_is) e
step-Whole f c cs v S.GroupSign h = λ w e r. rw e (rests-gaps f (c ∷ cs) w (wider f c cs w (right _ _ h.1) r))
step-Whole f c cs v S.Other h = tt

step-Pause : (f : NumberFormat) (c : ℕ) (cs v : List ℕ) (s : Sort) → Known f c s → Step f c cs v Pause (next Pause s c) (added Pause s c)
step-Pause f c cs v S.Digit h = λ w e r. rw e (inl (at_digit f c cs w h r))
step-Pause f c cs v S.Space h = λ w e r. rw e (elim r [ inl g ↦ inl (wider f c cs w (left _ _ h.1) g) | inr d ↦ inr ((left _ _ h.1, d.0), d.1) ])
step-Pause f c cs v S.Line h = λ w e r. rw e (inr ((right _ _ h.1, r.0), r.1))
step-Pause f c cs v S.DecimalSign h = tt
step-Pause f c cs v S.GroupSign h = λ w e r. rw e (inl (wider f c cs w (right _ _ h.1) r))
step-Pause f c cs v S.Other h = tt

step-Gap : (f : NumberFormat) (c : ℕ) (cs v : List ℕ) (s : Sort) → Known f c s → Step f c cs v Gap (next Gap s c) (added Gap s c)
step-Gap f c cs v S.Digit h = λ w e r. rw e (at_digit f c cs w h r)
step-Gap f c cs v S.Space h = λ w e r. rw e (wider f c cs w (left _ _ h.1) r)
step-Gap f c cs v S.Line h = tt
step-Gap f c cs v S.DecimalSign h = tt
step-Gap f c cs v S.GroupSign h = λ w e r. rw e (wider f c cs w (right _ _ h.1) r)
step-Gap f c cs v S.Other h = tt

step-Point : (f : NumberFormat) (c : ℕ) (cs v : List ℕ) (s : Sort) → Known f c s → Step f c cs v Point (next Point s c) (added Point s c)
step-Point f c cs v S.Digit h = λ w e r. rw e ((λ k. cc), digit-fraction c cs w h r)
step-Point f c cs v S.Space h = tt
step-Point f c cs v S.Line h = tt
step-Point f c cs v S.DecimalSign h = tt
step-Point f c cs v S.GroupSign h = tt
step-Point f c cs v S.Other h = tt

step-Fraction : (f : NumberFormat) (c : ℕ) (cs v : List ℕ) (s : Sort) → Known f c s → Step f c cs v Fraction (next Fraction s c) (added Fraction s c)
step-Fraction f c cs v S.Digit h = λ w e r. rw e (digit-fraction c cs w h r)
step-Fraction f c cs v S.Space h = λ w e r. rw (e, r.1) (no_digits (c ∷ cs) (left _ _ h.1, r.0))
step-Fraction f c cs v S.Line h = λ w e r. rw (e, r.1) (no_digits (c ∷ cs) (right _ _ h.1, r.0))
step-Fraction f c cs v S.DecimalSign h = tt
step-Fraction f c cs v S.GroupSign h = tt
step-Fraction f c cs v S.Other h = tt

step-End : (f : NumberFormat) (c : ℕ) (cs v : List ℕ) (s : Sort) → Known f c s → Step f c cs v End (next End s c) (added End s c)
step-End f c cs v S.Digit h = tt
step-End f c cs v S.Space h = λ w e r. ((left _ _ h.1, r.0), e ∙ r.1)
step-End f c cs v S.Line h = λ w e r. ((right _ _ h.1, r.0), e ∙ r.1)
step-End f c cs v S.DecimalSign h = tt
step-End f c cs v S.GroupSign h = tt
step-End f c cs v S.Other h = tt

step-Lead : (f : NumberFormat) (c : ℕ) (cs v : List ℕ) (s : Sort) → Known f c s → Step f c cs v Lead (next Lead s c) (added Lead s c)
step-Lead f c cs v S.Digit h = λ w e r. rw e (lead_digit f c cs w h r)
step-Lead f c cs v S.Space h = λ w e r. rw e (lead_dropped f c cs w (left _ _ h.1) r)
step-Lead f c cs v S.Line h = λ w e r. rw e (lead_dropped f c cs w (right _ _ h.1) r)
step-Lead f c cs v S.DecimalSign h = tt
step-Lead f c cs v S.GroupSign h = tt
step-Lead f c cs v S.Other h = tt

step-Sum : (f : NumberFormat) (c : ℕ) (cs v : List ℕ) (s : Sort) → Known f c s → Step f c cs v Sum (next Sum s c) (added Sum s c)
step-Sum f c cs v S.Digit h = λ w e r. rw e (next_digit f c cs w h r)
step-Sum f c cs v S.Space h = λ w e r. rw e (next_part f c cs w h.0 (left _ _ h.1) r)
step-Sum f c cs v S.Line h = λ w e r. rw e (next_word f c cs w h.0 (line-parts f c h.1) r)
step-Sum f c cs v S.DecimalSign h = λ w e r. rw e (next_word f c cs w h.0 (decimal_sign-parts f c h.1) r)
step-Sum f c cs v S.GroupSign h = λ w e r. rw e (next_part f c cs w h.0 (right _ _ h.1) r)
step-Sum f c cs v S.Other h = λ w e r. rw e (next_word f c cs w h.0 h.1 r)

step-Word : (f : NumberFormat) (c : ℕ) (cs v : List ℕ) (s : Sort) → Known f c s → Step f c cs v Word (next Word s c) (added Word s c)
step-Word f c cs v S.Digit h = λ w e r. rw e (first_cent c cs w h r)
step-Word f c cs v S.Space h = λ w e r. rw e (next_other c cs w h.0 r)
step-Word f c cs v S.Line h = λ w e r. rw e (next_other c cs w h.0 r)
step-Word f c cs v S.DecimalSign h = λ w e r. rw e (next_other c cs w h.0 r)
step-Word f c cs v S.GroupSign h = λ w e r. rw e (next_other c cs w h.0 r)
step-Word f c cs v S.Other h = λ w e r. rw e (next_other c cs w h.0 r)

step-Cent : (f : NumberFormat) (d c : ℕ) (cs v : List ℕ) (s : Sort) → Known f c s → Step f c cs v (Cent d) (next (Cent d) s c) (added (Cent d) s c)
step-Cent f d c cs v S.Digit h = λ w e r. two_cents d c cs v w h e r
step-Cent f d c cs v S.Space h = λ w e r. one_cent d c cs v w h.0 e r
step-Cent f d c cs v S.Line h = λ w e r. one_cent d c cs v w h.0 e r
step-Cent f d c cs v S.DecimalSign h = λ w e r. one_cent d c cs v w h.0 e r
step-Cent f d c cs v S.GroupSign h = λ w e r. one_cent d c cs v w h.0 e r
step-Cent f d c cs v S.Other h = λ w e r. one_cent d c cs v w h.0 e r

step-Tail : (f : NumberFormat) (c : ℕ) (cs v : List ℕ) (s : Sort) → Known f c s → Step f c cs v Tail (next Tail s c) (added Tail s c)
step-Tail f c cs v S.Digit h = tt
step-Tail f c cs v S.Space h = λ w e r. ((h.0, r.0), e ∙ r.1)
step-Tail f c cs v S.Line h = λ w e r. ((h.0, r.0), e ∙ r.1)
step-Tail f c cs v S.DecimalSign h = λ w e r. ((h.0, r.0), e ∙ r.1)
step-Tail f c cs v S.GroupSign h = λ w e r. ((h.0, r.0), e ∙ r.1)
step-Tail f c cs v S.Other h = λ w e r. ((h.0, r.0), e ∙ r.1)

step : (f : NumberFormat) (c : ℕ) (cs v : List ℕ) (p : Phase) (s : Sort) → Known f c s → Step f c cs v p (next p s c) (added p s c)
step f c cs v Start s h = step-Start f c cs v s h
step f c cs v Whole s h = step-Whole f c cs v s h
step f c cs v Pause s h = step-Pause f c cs v s h
step f c cs v Gap s h = step-Gap f c cs v s h
step f c cs v Point s h = step-Point f c cs v s h
step f c cs v Fraction s h = step-Fraction f c cs v s h
step f c cs v End s h = step-End f c cs v s h
step f c cs v Lead s h = step-Lead f c cs v s h
step f c cs v Sum s h = step-Sum f c cs v s h
step f c cs v Word s h = step-Word f c cs v s h
step f c cs v (Cent d) s h = step-Cent f d c cs v s h
step f c cs v Tail s h = step-Tail f c cs v s h

ended-at : (f : NumberFormat) (p : Phase) (v : List ℕ) → read f [] p ≡ Some v → Reads f p [] v
ended-at f Start v e = absurd (no v e)
ended-at f Whole v e = done [] v tt (let k : [] ≡ v = cc in sym k)
ended-at f Pause v e = inr (tt, let k : [] ≡ v = cc in sym k)
ended-at f Gap v e = absurd (no v e)
ended-at f Point v e = absurd (no v e)
ended-at f Fraction v e = let k : [] ≡ v = cc in rw (← k) (no_digits [] tt)
ended-at f End v e = (tt, let k : [] ≡ v = cc in sym k)
ended-at f Lead v e = absurd (no v e)
ended-at f Sum v e = absurd (no v e)
ended-at f Word v e = absurd (no v e)
ended-at f (Cent d) v e = last_cent d v (let k : 46 ∷ 48 ∷ d ∷ [] ≡ v = cc in sym k)
ended-at f Tail v e = (tt, let k : [] ≡ v = cc in sym k)

stepped : (f : NumberFormat) (c : ℕ) (cs v : List ℕ) (p : Phase) (o : Option Phase) (xs : List ℕ) → Step f c cs v p o xs → ((q : Phase) (w : List ℕ) → read f cs q ≡ Some w → Reads f q cs w) →
    with_front xs (read_by o (read f cs)) ≡ Some v → Reads f p (c ∷ cs) v
stepped f c cs v p None xs k ih e = absurd (no v e)
stepped f c cs v p (Some q) xs k ih e = let i = inverted xs (read f cs q) v e in k i.0 i.2 (ih q i.0 i.1)

reads : (f : NumberFormat) (cs : List ℕ) (p : Phase) (v : List ℕ) → read f cs p ≡ Some v → Reads f p cs v
reads f [] p v e = ended-at f p v e
reads f (c ∷ cs) p v e = stepped f c cs v p (next p (sort_of f c) c) (added p (sort_of f c) c) (step f c cs v p (sort_of f c) (known f c)) (reads f cs) e

pub sound : (f : NumberFormat) (cs v : List ℕ) → read f cs (first f) ≡ Some v → IsValue f cs v
sound N.Dot cs v e = reads N.Dot cs Start v e
sound N.Comma cs v e = reads N.Comma cs Start v e
sound N.Unit cs v e = reads N.Unit cs Lead v e
