-- Texts and references that are written end where they were written to end, and mean what they say.
use Rattle.std.proofs.Common.{◌≡◌, ℕ, suc, ◌+◌, ◌-◌, ◌==◌, Bool, true, false, ◌||◌, if◌then◌else◌, List, [], ◌∷◌, ◌++◌, length, take, drop, Some, None, option_map, refl, sym, ap, ◌∙◌, arith, append_assoc, length-append, bytes_eq, codes}
use Rattle.std.specs.List.{list_any}
use Rattle.ix_base.specs.NcName.{is_white}
use Rattle.page_constructs.specs.Constructs.{text_size, reference_size, kind_of, size_by, size, with_front}
use Rattle.page_constructs.specs.Forms.{HasForm, holds}
use Rattle.page_tree.specs.Spellings.{is_markup, ends_reference}
use Rattle.page_constructs.specs.Tokens.{words, refer}
use Rattle.page_constructs.specs.Values.{spelled, referred}
use Rattle.page_constructs.specs.declared.kind.Kind.TheVariants.{Reference, Text}
use Rattle.page_constructs.proofs.SpanLaws.{or_left, or_right, take-front, drop-front}

text-goes : (text : List ℕ) (next : ℕ) (rest : List ℕ) → list_any is_markup text ≡ false → is_markup next ≡ true → text_size (text ++ next ∷ rest) ≡ Some (length text)
text-goes [] next rest h n = rw n refl
text-goes (c ∷ text) next rest h n =
    let here = or_left (is_markup c) (list_any is_markup text) h in
    rw here (ap (option_map suc) (text-goes text next rest (or_right (is_markup c) (list_any is_markup text) h) n))

pub text-size : (first : Bool) (c : ℕ) (text : List ℕ) (next : ℕ) (rest : List ℕ) → list_any is_markup (c ∷ text) ≡ false → is_markup next ≡ true
    → (kind_of first ((c ∷ text) ++ next ∷ rest) ≡ Text) × (size first ((c ∷ text) ++ next ∷ rest) ≡ Some (length (c ∷ text)))
unfolding kind_of size_by
text-size first c text next rest h n = (kind, ap (λ k. size_by k (c ∷ (text ++ next ∷ rest))) kind ∙ ap (with_front 1) (text-goes text next rest (or_right (is_markup c) (list_any is_markup text) h) n) ∙ ap Some (omega arith)) where
  here : is_markup c ≡ false
  here = or_left (is_markup c) (list_any is_markup text) h

  kind : kind_of first (c ∷ (text ++ next ∷ rest)) ≡ Text
  kind = rw (or_left (c == 60) (c == 38) here, or_right (c == 60) (c == 38) here) refl

pub text-means : (at : ℕ) (text : List ℕ) → holds (codes "]]>") text ≡ false → HasForm Text at text (words text)
text-means at text h = (refl, h)

reference-goes : (inner rest : List ℕ) → list_any ends_reference inner ≡ false → reference_size (inner ++ 59 ∷ rest) ≡ Some (length inner + 1)
reference-goes [] rest h = refl
reference-goes (c ∷ inner) rest h =
    let here = or_left (ends_reference c) (list_any ends_reference inner) h in
    let semi = or_left (c == 59) (is_white c || c == 60 || c == 38) here in
    let stop = or_right (c == 59) (is_white c || c == 60 || c == 38) here in
    rw (semi, stop) (ap (option_map suc) (reference-goes inner rest (or_right (ends_reference c) (list_any ends_reference inner) h)) ∙ ap Some (omega arith))

pub reference-size : (first : Bool) (inner rest : List ℕ) → list_any ends_reference inner ≡ false
    → (kind_of first ((38 ∷ (inner ++ 59 ∷ [])) ++ rest) ≡ Reference) × (size first ((38 ∷ (inner ++ 59 ∷ [])) ++ rest) ≡ Some (length (38 ∷ (inner ++ 59 ∷ []))))
unfolding kind_of size_by
reference-size first inner rest h =
    (refl, ap (with_front 1) (ap reference_size (append_assoc inner (59 ∷ []) rest) ∙ reference-goes inner rest h) ∙ ap Some (omega (arith, length-append inner (59 ∷ []))))

pub reference-means : (at : ℕ) (inner : List ℕ) → HasForm Reference at (38 ∷ (inner ++ 59 ∷ [])) (refer (spelled (referred inner)))
reference-means at inner = sym (ap (λ b. if b then spelled (referred (take (length (38 ∷ (inner ++ 59 ∷ [])) - 2) (inner ++ 59 ∷ []))) else None) last ∙ ap (λ t. spelled (referred t)) front) where
  size_ : length (38 ∷ (inner ++ 59 ∷ [])) ≡ length inner + 2
  size_ = omega (arith, length-append inner (59 ∷ []))

  last : bytes_eq (drop (length (38 ∷ (inner ++ 59 ∷ [])) - 1) (38 ∷ (inner ++ 59 ∷ []))) (59 ∷ []) ≡ true
  last =
      let k : length (38 ∷ (inner ++ 59 ∷ [])) - 1 ≡ suc (length inner) = let s = size_ in omega arith in
      ap (λ n. bytes_eq (drop n (38 ∷ (inner ++ 59 ∷ []))) (59 ∷ [])) k ∙ ap (λ t. bytes_eq t (59 ∷ [])) (drop-front inner (59 ∷ []))

  front : take (length (38 ∷ (inner ++ 59 ∷ [])) - 2) (inner ++ 59 ∷ []) ≡ inner
  front =
      let k : length (38 ∷ (inner ++ 59 ∷ [])) - 2 ≡ length inner = let s = size_ in omega arith in
      ap (λ n. take n (inner ++ 59 ∷ [])) k ∙ take-front inner (59 ∷ [])
