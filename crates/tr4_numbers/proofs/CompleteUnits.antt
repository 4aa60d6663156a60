-- What the grammar of numbers with a unit relates is read.
use Rattle.std.proofs.Common.{◌≡◌, ◌≢◌, ℕ, not, IsTrue, List, [], ◌∷◌, ◌++◌, Option, Some, refl, sym, ◌∙◌, inl, inr, append_assoc}
use Rattle.tr4_numbers.specs.declared.NumberFormat.{NumberFormat}
use Rattle.tr4_numbers.specs.declared.reader.Sort.{Sort}
use Rattle.tr4_numbers.specs.declared.reader.Sort.TheVariants as S
use Rattle.tr4_numbers.specs.declared.reader.Phase.{Phase}
use Rattle.tr4_numbers.specs.declared.reader.Phase.TheVariants.{Lead, Sum, Word, Cent, Tail}
use Rattle.tr4_numbers.specs.Transformation.{is_digit, may_part, AreDropped, IsGap, Follow, Grouped, AreOthers, HasWord, AreCents, two, IsUnits, IsBetween}
use Rattle.tr4_numbers.specs.Readers.{sort_of, next, added, with_front, read_by, read}
use Rattle.tr4_numbers.proofs.Sorts.{sort-digit, sort-other, sort-dropped, sort-gap, sort-word, cases_part, clashing, dropped-other}
use Rattle.tr4_numbers.proofs.CompleteDecimal.{front-nil, front-front}

-- a character that is no digit, by its sort
tail-other : (s : Sort) (c : ℕ) → s ≢ S.Digit → (o : Phase → Option (List ℕ)) → with_front (added Tail s c) (read_by (next Tail s c) o) ≡ o Tail
tail-other S.Digit c n o = absurd (n refl)
tail-other S.Space c n o = front-nil (o Tail)
tail-other S.Line c n o = front-nil (o Tail)
tail-other S.DecimalSign c n o = front-nil (o Tail)
tail-other S.GroupSign c n o = front-nil (o Tail)
tail-other S.Other c n o = front-nil (o Tail)

word-other : (s : Sort) (c : ℕ) → s ≢ S.Digit → (o : Phase → Option (List ℕ)) → with_front (added Word s c) (read_by (next Word s c) o) ≡ o Word
word-other S.Digit c n o = absurd (n refl)
word-other S.Space c n o = front-nil (o Word)
word-other S.Line c n o = front-nil (o Word)
word-other S.DecimalSign c n o = front-nil (o Word)
word-other S.GroupSign c n o = front-nil (o Word)
word-other S.Other c n o = front-nil (o Word)

cent-other : (d : ℕ) (s : Sort) (c : ℕ) → s ≢ S.Digit → (o : Phase → Option (List ℕ)) → with_front (added (Cent d) s c) (read_by (next (Cent d) s c) o) ≡ with_front (46 ∷ 48 ∷ d ∷ []) (o Tail)
cent-other d S.Digit c n o = absurd (n refl)
cent-other d S.Space c n o = refl
cent-other d S.Line c n o = refl
cent-other d S.DecimalSign c n o = refl
cent-other d S.GroupSign c n o = refl
cent-other d S.Other c n o = refl

tail-read : (f : NumberFormat) (cs : List ℕ) → AreOthers cs → read f cs Tail ≡ Some []
tail-read f [] d = refl
tail-read f (c ∷ cs) d = tail-other (sort_of f c) c (sort-other f c d.0) (read f cs) ∙ tail-read f cs d.1

cent-read : (f : NumberFormat) (d : ℕ) (cs : List ℕ) → AreOthers cs → read f cs (Cent d) ≡ Some (46 ∷ 48 ∷ d ∷ [])
cent-read f d [] o = refl
cent-read f d (c ∷ cs) o = cent-other d (sort_of f c) c (sort-other f c o.0) (read f cs) ∙ (rw (tail-read f cs o.1) refl)

word-read : (f : NumberFormat) (b cs : List ℕ) → AreOthers b → read f (b ++ cs) Word ≡ read f cs Word
word-read f [] cs o = refl
word-read f (c ∷ b) cs o = word-other (sort_of f c) c (sort-other f c o.0) (read f (b ++ cs)) ∙ word-read f b cs o.1

cents-read : (f : NumberFormat) (cents rest : List ℕ) → AreCents cents → AreOthers rest → read f (cents ++ rest) Word ≡ Some (46 ∷ two cents)
cents-read f [] rest d o = elim d [ ]
cents-read f (c ∷ []) rest d o = rw (sort-digit f c d, cent-read f c rest o) refl
cents-read f (c ∷ e ∷ []) rest d o = rw (sort-digit f c d.0, sort-digit f e d.1, tail-read f rest o) refl
cents-read f (c ∷ e ∷ g ∷ cs) rest d o = elim d [ ]

part-step : (f : NumberFormat) (c : ℕ) → IsTrue (may_part f c) → (o : Phase → Option (List ℕ)) → with_front (added Sum (sort_of f c) c) (read_by (next Sum (sort_of f c) c) o) ≡ o Sum
part-step f c g o = elim (sort-gap f c g) [ inl e ↦ rw e (front-nil (o Sum)) | inr e ↦ rw e (front-nil (o Sum)) ]

word-step : (f : NumberFormat) (c : ℕ) → IsTrue (not (is_digit c)) → IsTrue (not (may_part f c)) → (o : Phase → Option (List ℕ)) → with_front (added Sum (sort_of f c) c) (read_by (next Sum (sort_of f c) c) o) ≡ o Word
word-step f c n m o = elim (sort-word f c n m) [
  | inl e ↦ rw e (front-nil (o Word))
  | inr r ↦ elim r [ inl e ↦ rw e (front-nil (o Word)) | inr e ↦ rw e (front-nil (o Word)) ]
]

word-later : (f : NumberFormat) (c : ℕ) (cs : List ℕ) → IsTrue (may_part f c) → HasWord f (c ∷ cs) → HasWord f cs
word-later f c cs p (inl n) = absurd (clashing (may_part f c) p n)
word-later f c cs p (inr w) = w

between-read : (f : NumberFormat) (b cs : List ℕ) → AreOthers b → HasWord f b → read f (b ++ cs) Sum ≡ read f cs Word
between-read f [] cs o w = elim w [ ]
between-read f (c ∷ b) cs o w = elim (cases_part f c) [
  | inl p ↦ part-step f c p (read f (b ++ cs)) ∙ between-read f b cs o.1 (word-later f c b p w)
  | inr n ↦ word-step f c o.0 n (read f (b ++ cs)) ∙ word-read f b cs o.1
]

sum-read : (f : NumberFormat) (gap rest : List ℕ) (d : ℕ) → IsGap f gap → IsTrue (is_digit d) → read f (gap ++ d ∷ rest) Sum ≡ with_front (d ∷ []) (read f rest Sum)
sum-read f [] rest d g h = rw (sort-digit f d h) refl
sum-read f (c ∷ cs) rest d g h = part-step f c g.0 (read f (cs ++ d ∷ rest)) ∙ sum-read f cs rest d g.1 h

follow-read : (f : NumberFormat) (ds text tail : List ℕ) → Follow f ds text → read f (text ++ tail) Sum ≡ with_front ds (read f tail Sum)
follow-read f [] text tail h = rw h (sym (front-nil _))
follow-read f (d ∷ ds) text tail (gap, rest, g, digit, e, more) =
    let k = follow-read f ds rest tail more in
    rw (e, append_assoc gap (d ∷ rest) tail, sum-read f gap (rest ++ tail) d g digit, k) (front-front (d ∷ []) ds (read f tail Sum))

grouped-read : (f : NumberFormat) (ds text tail : List ℕ) → Grouped f ds text → read f (text ++ tail) Lead ≡ with_front ds (read f tail Sum)
grouped-read f [] text tail h = elim h [ ]
grouped-read f (d ∷ ds) text tail (rest, digit, e, more) =
    let k = follow-read f ds rest tail more in
    rw (e, sort-digit f d digit, k) (front-front (d ∷ []) ds (read f tail Sum))

lead-read : (f : NumberFormat) (before cs : List ℕ) → AreDropped before → read f (before ++ cs) Lead ≡ read f cs Lead
lead-read f [] cs d = refl
lead-read f (c ∷ bs) cs d = elim (sort-dropped f c d.0) [
  | inl e ↦ rw (e, lead-read f bs cs d.1) (front-nil _)
  | inr e ↦ rw (e, lead-read f bs cs d.1) (front-nil _)
]

-- what is dropped at the end may as well stand behind the last digits
AreOthers-append : (rest after : List ℕ) → AreOthers rest → AreDropped after → AreOthers (rest ++ after)
AreOthers-append [] [] o d = tt
AreOthers-append [] (c ∷ cs) o d = (dropped-other c d.0, AreOthers-append [] cs tt d.1)
AreOthers-append (c ∷ cs) after o d = (o.0, AreOthers-append cs after o.1 d)

regrouped : (a b c d after : List ℕ) → (a ++ (b ++ (c ++ d))) ++ after ≡ a ++ (b ++ (c ++ (d ++ after)))
regrouped a b c d after = simp append_assoc

units-value : (f : NumberFormat) (text after v : List ℕ) → AreDropped after → IsUnits f text v → read f (text ++ after) Lead ≡ Some v
units-value f text after v d w =
    rw (
      w.text_is,
      regrouped w.spelled w.between w.cents w.rest after,
      grouped-read f w.digits w.spelled (w.between ++ (w.cents ++ (w.rest ++ after))) w.grouped,
      between-read f w.between (w.cents ++ (w.rest ++ after)) w.others w.word,
      cents-read f w.cents (w.rest ++ after) w.are_cents (AreOthers-append w.rest after w.others_rest d),
      w.value_is,
    ) refl

-- a number with a unit is read
pub complete-units : (f : NumberFormat) (text v : List ℕ) → IsBetween (IsUnits f) text v → read f text Lead ≡ Some v
complete-units f text v w = rw (w.parts, lead-read f w.before (w.number ++ w.after) w.dropped_before) (units-value f w.number w.after v w.dropped_after w.row)
