-- Texts in other texts, and around them.
use Rattle.std.proofs.Common.{◌≡◌, ◌≢◌, ℕ, ◌+◌, ◌-◌, ◌≤◌, ◌==◌, Bool, true, false, ◌||◌, ◌⊎◌, inl, inr, List, [], ◌∷◌, ◌++◌, length, take, drop, subst, refl, sym, ap, ◌∙◌, arith, append_assoc, append-nil, length-append}
use Rattle.std.proofs.lemmas.Str.{IsCharBoundary-at_seam, IsCharBoundary-from_take}
use Rattle.std.proofs.lemmas.Bool.{and_right}
use Rattle.std.specs.Str.{IsUtf8, IsCharBoundary}
use Rattle.std.specs.Str.Iter.{HasSubslice}
use Rattle.page_constructs.specs.Constructs.{starts}
use Rattle.page_constructs.specs.Ends.{HasEnds, IsAround, front_around, back_around}
use Rattle.page_constructs.specs.Forms.{has, holds}
use Rattle.page_constructs.specs.declared.kind.Kind.{Kind}
use Rattle.page_constructs.specs.declared.kind.Kind.TheVariants.{Declaration, Instruction, Comment, Cdata, Doctype, Unknown, EndTag, StartTag, Reference, Text}
use Rattle.page_constructs.proofs.SpanLaws.{clash, either, is_same, or_left, or_right, starts-front, starts-append, take-front}

holds-within : (c : ℕ) (part a b : List ℕ) → holds (c ∷ part) (a ++ (c ∷ part ++ b)) ≡ true
holds-within c part [] b = rw (is_same c, starts-append part b) refl
holds-within c part (x ∷ a) b = elim (starts (c ∷ part) (x ∷ (a ++ (c ∷ part ++ b)))) as (λ y. (y || holds (c ∷ part) (a ++ (c ∷ part ++ b))) ≡ true) [ true ↦ refl | false ↦ holds-within c part a b ]

holds-found : (part cs : List ℕ) → holds part cs ≡ true → HasSubslice cs part
holds-found part [] h = absurd (cc)
holds-found part (c ∷ cs) h = by_start (starts part (c ∷ cs)) refl h (λ k. holds-found part cs k) where
  by_start : (b : Bool) → starts part (c ∷ cs) ≡ b → (b || holds part cs) ≡ true → (holds part cs ≡ true → HasSubslice cs part) → HasSubslice (c ∷ cs) part
  by_start true s t k = ([], drop (length part) (c ∷ cs), starts-front part (c ∷ cs) s)
  by_start false s t k = let f = k t in (c ∷ f.0, f.1, ap (λ x. c ∷ x) f.2)

pub holds-is : (part cs : List ℕ) (r : Bool) → part ≢ [] → (r ≡ true → HasSubslice cs part) → (HasSubslice cs part → r ≡ true) → r ≡ holds part cs
holds-is [] cs r n to back = absurd (n refl)
holds-is (c ∷ part) cs true n to back = let f = to refl in sym (ap (holds (c ∷ part)) f.2 ∙ holds-within c part f.0 f.1)
holds-is (c ∷ part) cs false n to back = elim (either (holds (c ∷ part) cs)) as (λ x. false ≡ holds (c ∷ part) cs) [
  | inl y ↦ absurd (let z = back (holds-found (c ∷ part) cs y) in cc)
  | inr k ↦ sym k
]

-- two dashes
abbrev Dashes : List ℕ
Dashes = 45 ∷ 45 ∷ []

pub dashes-inside : (inner : List ℕ) → holds Dashes inner ≡ true → holds Dashes (inner ++ 45 ∷ []) ≡ true
dashes-inside inner h =
    let f = holds-found Dashes inner h in
    ap (λ x. holds Dashes (x ++ 45 ∷ [])) f.2 ∙ ap (holds Dashes) (append_assoc f.0 (Dashes ++ f.1) (45 ∷ [])) ∙ holds-within 45 (45 ∷ []) f.0 (f.1 ++ 45 ∷ [])

pub dashes-end : (inner front : List ℕ) → inner ≡ front ++ 45 ∷ [] → holds Dashes (inner ++ 45 ∷ []) ≡ true
dashes-end inner front e = ap (λ x. holds Dashes (x ++ 45 ∷ [])) e ∙ ap (holds Dashes) (append_assoc front (45 ∷ []) (45 ∷ [])) ∙ holds-within 45 (45 ∷ []) front []

tails : (a b : ℕ) (x y : List ℕ) → a ∷ x ≡ b ∷ y → x ≡ y
tails a b x y e = cc

heads : (a b : ℕ) (x y : List ℕ) → a ∷ x ≡ b ∷ y → a ≡ b
heads a b x y e = cc

abbrev Splits : List ℕ → Type 0
Splits inner = ((front : List ℕ) × (inner ≡ front ++ 45 ∷ [])) ⊎ HasSubslice inner Dashes

dashes-split : (inner a b : List ℕ) → inner ++ 45 ∷ [] ≡ a ++ (Dashes ++ b) → Splits inner
dashes-split [] [] b e = absurd (let z : [] ≡ 45 ∷ b = tails 45 45 [] (45 ∷ b) e in cc)
dashes-split [] (c ∷ a) b e = absurd (let z = ap length e in let l = length-append a (Dashes ++ b) in omega arith)
dashes-split (x ∷ []) [] b e = inl ([], ap (λ y. y ∷ []) (heads x 45 (45 ∷ []) (45 ∷ b) e))
dashes-split (x ∷ y ∷ i) [] b e =
    let t = tails x 45 (y ∷ (i ++ 45 ∷ [])) (45 ∷ b) e in
    inr ([], i, rw (heads x 45 (y ∷ (i ++ 45 ∷ [])) (45 ∷ b) e, heads y 45 (i ++ 45 ∷ []) b t) refl)
dashes-split (x ∷ i) (c ∷ a) b e = more (dashes-split i a b (tails x c (i ++ 45 ∷ []) (a ++ (Dashes ++ b)) e)) where
  more : Splits i → Splits (x ∷ i)
  more (inl f) = inl (x ∷ f.0, ap (λ y. x ∷ y) f.1)
  more (inr f) = inr (x ∷ f.0, f.1, ap (λ y. x ∷ y) f.2)

pub no-dashes : (inner : List ℕ) → holds Dashes inner ≡ false → ((front : List ℕ) → inner ≢ front ++ 45 ∷ []) → holds Dashes (inner ++ 45 ∷ []) ≡ false
no-dashes inner h n = elim (either (holds Dashes (inner ++ 45 ∷ []))) as (λ x. holds Dashes (inner ++ 45 ∷ []) ≡ false) [
  | inl y ↦ absurd (by_split (let f = holds-found Dashes (inner ++ 45 ∷ []) y in dashes-split inner f.0 f.1 f.2))
  | inr k ↦ k
]
  where
    by_split : Splits inner → ⊥
    by_split (inl f) = n f.0 f.1
    by_split (inr f) = clash (holds Dashes inner) (ap (holds Dashes) f.2 ∙ holds-within 45 (45 ∷ []) f.0 f.1) h

pub ends-around : (kind : Kind) (text : List ℕ) → HasEnds kind text → IsAround (front_around kind) (back_around kind) text
ends-around Declaration text h = inl h
ends-around Instruction text (inl h) = inl h
ends-around Instruction text (inr e) = inr (let l = ap length e in omega arith)
ends-around Comment text h = inl h
ends-around Cdata text h = inl h
ends-around Doctype text h = inl h
ends-around Unknown text h = inl (text, sym (append-nil text))
ends-around EndTag text h = inl h
ends-around StartTag text h = inl h
ends-around Reference text h = inl (text, sym (append-nil text))
ends-around Text text h = inl (text, sym (append-nil text))

-- without its last byte, a part stands nowhere
pub ends-none : (c : ℕ) (part cs : List ℕ) → has c cs ≡ false → holds (part ++ c ∷ []) cs ≡ false
ends-none c part [] n = refl
ends-none c part (d ∷ cs) n =
    rw (starts-none part (d ∷ cs) n, ends-none c part cs (or_right (d == c) (has c cs) n)) refl where
      starts-none : (part cs : List ℕ) → has c cs ≡ false → starts (part ++ c ∷ []) cs ≡ false
      starts-none [] [] n = refl
      starts-none (p ∷ ps) [] n = refl
      starts-none [] (d ∷ cs) n = rw (or_left (d == c) (has c cs) n) refl
      starts-none (p ∷ ps) (d ∷ cs) n = rw (starts-none ps cs (or_right (d == c) (has c cs) n)) (and_right (d == p) false refl)

-- a text may be cut behind what stands in front of what it says, and before what stands behind it
module _ (front back text : List ℕ) (around : IsAround front back text) (u : IsUtf8 text) (room : length front + length back ≤ length text) where
  pub cut-front : IsUtf8 front → IsCharBoundary text (length front)
  cut-front f = elim around [
    | inl w ↦ IsCharBoundary-from_take text (length front) u (omega arith)
        (subst IsUtf8 (sym (ap (take (length front)) w.1 ∙ take-front front (w.0 ++ back))) f)
    | inr few ↦ absurd (omega arith)
  ]

  pub cut-back : IsUtf8 back → IsCharBoundary text (length text - length back)
  cut-back b = elim around [
    | inl w ↦
        let splits : text ≡ (front ++ w.0) ++ back = w.1 ∙ sym (append_assoc front w.0 back) in
        let long = ap length splits ∙ length-append (front ++ w.0) back in
        let place : length (front ++ w.0) ≡ length text - length back = omega arith in
        subst (IsCharBoundary text) place (IsCharBoundary-at_seam text (front ++ w.0) back splits b)
    | inr few ↦ absurd (omega arith)
  ]
