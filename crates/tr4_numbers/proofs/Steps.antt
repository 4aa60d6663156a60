-- What one turn of the reader does.
use Rattle.std.proofs.Common.{◌≡◌, ℕ, ◌+◌, ◌≤◌, ◌<◌, true, false, List, [], ◌∷◌, ◌++◌, length, get_or, drop, Option, Some, None, refl, sym, ap, subst, ◌∙◌, arith}
use Rattle.std.proofs.lemmas.List.{drop_more, drop_all}
use Rattle.tr4_numbers.specs.declared.NumberFormat.{NumberFormat}
use Rattle.tr4_numbers.specs.declared.NumberFormat.TheVariants as N
use Rattle.tr4_numbers.specs.declared.reader.Sort.{Sort}
use Rattle.tr4_numbers.specs.declared.reader.Sort.TheVariants as S
use Rattle.tr4_numbers.specs.declared.reader.Phase.{Phase}
use Rattle.tr4_numbers.specs.declared.reader.Phase.TheVariants.{Start, Whole, Pause, Gap, Point, Fraction, End, Lead, Sum, Word, Cent, Tail}
use Rattle.tr4_numbers.specs.Transformation.{IsValue}
use Rattle.tr4_numbers.specs.Readers.{sort_of, first, next, may_end, last, added, with_front, read, held}
use Rattle.tr4_numbers.proofs.CompleteDecimal.{front-nil, front-front}
use Rattle.tr4_numbers.proofs.Complete.{complete}
use Rattle.tr4_numbers.proofs.Sound.{sound}

-- a step keeps within what is held back
abbrev pub Fits : Phase → Sort → ℕ → Option Phase → Type 0
Fits p s c None = Unit {0}
Fits p s c (Some q) = length (added p s c) + held q ≤ 1 + held p

fits : (p : Phase) (s : Sort) (c : ℕ) → Fits p s c (next p s c)
fits Start S.Digit c = omega arith
fits Start S.Space c = omega arith
fits Start S.Line c = omega arith
fits Start S.DecimalSign c = omega arith
fits Start S.GroupSign c = tt
fits Start S.Other c = tt
fits Whole S.Digit c = omega arith
fits Whole S.Space c = omega arith
fits Whole S.Line c = omega arith
fits Whole S.DecimalSign c = omega arith
fits Whole S.GroupSign c = omega arith
fits Whole S.Other c = tt
fits Pause S.Digit c = omega arith
fits Pause S.Space c = omega arith
fits Pause S.Line c = omega arith
fits Pause S.DecimalSign c = tt
fits Pause S.GroupSign c = omega arith
fits Pause S.Other c = tt
fits Gap S.Digit c = omega arith
fits Gap S.Space c = omega arith
fits Gap S.Line c = tt
fits Gap S.DecimalSign c = tt
fits Gap S.GroupSign c = omega arith
fits Gap S.Other c = tt
fits Point S.Digit c = omega arith
fits Point S.Space c = tt
fits Point S.Line c = tt
fits Point S.DecimalSign c = tt
fits Point S.GroupSign c = tt
fits Point S.Other c = tt
fits Fraction S.Digit c = omega arith
fits Fraction S.Space c = omega arith
fits Fraction S.Line c = omega arith
fits Fraction S.DecimalSign c = tt
fits Fraction S.GroupSign c = tt
fits Fraction S.Other c = tt
fits End S.Digit c = tt
fits End S.Space c = omega arith
fits End S.Line c = omega arith
fits End S.DecimalSign c = tt
fits End S.GroupSign c = tt
fits End S.Other c = tt
fits Lead S.Digit c = omega arith
fits Lead S.Space c = omega arith
fits Lead S.Line c = omega arith
fits Lead S.DecimalSign c = tt
fits Lead S.GroupSign c = tt
fits Lead S.Other c = tt
fits Sum S.Digit c = omega arith
fits Sum S.Space c = omega arith
fits Sum S.Line c = omega arith
fits Sum S.DecimalSign c = omega arith
fits Sum S.GroupSign c = omega arith
fits Sum S.Other c = omega arith
fits Word S.Digit c = omega arith
fits Word S.Space c = omega arith
fits Word S.Line c = omega arith
fits Word S.DecimalSign c = omega arith
fits Word S.GroupSign c = omega arith
fits Word S.Other c = omega arith
fits (Cent d) S.Digit c = omega arith
fits (Cent d) S.Space c = omega arith
fits (Cent d) S.Line c = omega arith
fits (Cent d) S.DecimalSign c = omega arith
fits (Cent d) S.GroupSign c = omega arith
fits (Cent d) S.Other c = omega arith
fits Tail S.Digit c = tt
fits Tail S.Space c = omega arith
fits Tail S.Line c = omega arith
fits Tail S.DecimalSign c = omega arith
fits Tail S.GroupSign c = omega arith
fits Tail S.Other c = omega arith

pub fits-next : (p : Phase) (s : Sort) (c : ℕ) (q : Phase) → next p s c ≡ Some q → length (added p s c) + held q ≤ 1 + held p
fits-next p s c q e = let k = subst (λ o. Fits p s c o) e (fits p s c) in k

-- what the end adds was held back
pub fits-last : (p : Phase) → length (last p) ≤ held p
fits-last Start = omega arith
fits-last Whole = omega arith
fits-last Pause = omega arith
fits-last Gap = omega arith
fits-last Point = omega arith
fits-last Fraction = omega arith
fits-last End = omega arith
fits-last Lead = omega arith
fits-last Sum = omega arith
fits-last Word = omega arith
fits-last (Cent d) = omega arith
fits-last Tail = omega arith

pub held-first : (f : NumberFormat) → held (first f) ≡ 1
held-first N.Dot = refl
held-first N.Comma = refl
held-first N.Unit = refl

drop-at : (cs : List ℕ) (n c : ℕ) → (n < length cs) × (c ≡ get_or cs n c) → drop n cs ≡ c ∷ drop (n + 1) cs
drop-at cs n c h = drop_more cs n c h.0 ∙ ap (λ x. x ∷ drop (n + 1) cs) (sym h.1)

read-next : (f : NumberFormat) (c : ℕ) (rest : List ℕ) (p q : Phase) (s : Sort) → s ≡ sort_of f c → next p s c ≡ Some q → read f (c ∷ rest) p ≡ with_front (added p s c) (read f rest q)
read-next f c rest p q s e n = let k : next p (sort_of f c) c ≡ Some q = rw (← e) n in rw (k, e) refl

read-none : (f : NumberFormat) (c : ℕ) (rest : List ℕ) (p : Phase) (s : Sort) → s ≡ sort_of f c → next p s c ≡ None → read f (c ∷ rest) p ≡ None
read-none f c rest p s e n = let k : next p (sort_of f c) c ≡ None = rw (← e) n in rw k refl

-- with what was written and the phase, the rest of the text gives what the whole text gives
pub record StandsAt (f : NumberFormat) (cs xs : List ℕ) (n : ℕ) (p : Phase) : Type 0 where
  pub same : with_front xs (read f (drop n cs) p) ≡ read f cs (first f)

pub begun : (f : NumberFormat) (cs xs : List ℕ) (p : Phase) → xs ≡ [] → p ≡ first f → StandsAt f cs xs 0 p
begun f cs xs p e g = record { same = rw (e, g) (front-nil (read f cs (first f))) }

-- over one character
pub turned : (f : NumberFormat) (cs xs ys : List ℕ) (n c : ℕ) (p q : Phase) (s : Sort) → (n < length cs) × (c ≡ get_or cs n c) → s ≡ sort_of f c → next p s c ≡ Some q →
    StandsAt f cs xs n p → ys ≡ xs ++ added p s c → StandsAt f cs ys (n + 1) q
turned f cs xs ys n c p q s t e g h k =
    let a : read f (drop n cs) p ≡ with_front (added p s c) (read f (drop (n + 1) cs) q) = ap (λ zs. read f zs p) (drop-at cs n c t) ∙ read-next f c (drop (n + 1) cs) p q s e g in
    record { same = rw k (sym (front-front xs (added p s c) (read f (drop (n + 1) cs) q)) ∙ ap (λ o. with_front xs o) (sym a) ∙ h.same) }

clash : (v : List ℕ) (o : Option (List ℕ)) → o ≡ None → o ≡ Some v → ⊥
clash v o a b = cc

-- a character that no value allows there
pub refused : (f : NumberFormat) (cs xs : List ℕ) (n c : ℕ) (p : Phase) (s : Sort) (v : List ℕ) → (n < length cs) × (c ≡ get_or cs n c) → s ≡ sort_of f c → None ≡ next p s c →
    StandsAt f cs xs n p → IsValue f cs v → ⊥
refused f cs xs n c p s v t e g h w =
    let a : read f (drop n cs) p ≡ None = ap (λ zs. read f zs p) (drop-at cs n c t) ∙ read-none f c (drop (n + 1) cs) p s e (sym g) in
    let b : with_front xs (read f (drop n cs) p) ≡ None = ap (λ o. with_front xs o) a in
    clash v (read f cs (first f)) (sym h.same ∙ b) (complete f cs v w)

at_end : (f : NumberFormat) (cs xs : List ℕ) (n : ℕ) (p : Phase) → length cs ≤ n → StandsAt f cs xs n p → with_front xs (read f [] p) ≡ read f cs (first f)
at_end f cs xs n p t h = ap (λ zs. with_front xs (read f zs p)) (sym (drop_all n cs t)) ∙ h.same

ended-yes : (f : NumberFormat) (p : Phase) → may_end p ≡ true → read f [] p ≡ Some (last p)
ended-yes f p e = rw e refl

ended-no : (f : NumberFormat) (p : Phase) → may_end p ≡ false → read f [] p ≡ None
ended-no f p e = rw e refl

-- what the end adds completes the value
pub accepted : (f : NumberFormat) (cs xs ys : List ℕ) (n : ℕ) (p : Phase) → length cs ≤ n → true ≡ may_end p → ys ≡ xs ++ last p → StandsAt f cs xs n p → IsValue f cs ys
accepted f cs xs ys n p t e z h =
    let b : read f cs (first f) ≡ Some ys = sym (at_end f cs xs n p t h) ∙ ap (λ o. with_front xs o) (ended-yes f p (sym e)) ∙ ap Some (sym z) in
    sound f cs ys b

-- a text that may not end there
pub unended : (f : NumberFormat) (cs xs : List ℕ) (n : ℕ) (p : Phase) (v : List ℕ) → length cs ≤ n → false ≡ may_end p → StandsAt f cs xs n p → IsValue f cs v → ⊥
unended f cs xs n p v t e h w =
    clash v (read f cs (first f)) (sym (at_end f cs xs n p t h) ∙ ap (λ o. with_front xs o) (ended-no f p (sym e))) (complete f cs v w)
