-- What a feed reads of a piece, and the bytes that the characters give.
use Rattle.std.proofs.Common.{◌≡◌, ℕ, zero, suc, get_or, ◌+◌, ◌-◌, ◌<◌, ◌≤◌, true, List, [], ◌∷◌, ◌++◌, length, take, drop, Result, Ok, Err, OnOk, refl, sym, ap, ◌∙◌, subst, arith, append-nil, append_assoc, take-append-drop, length-drop}
use Rattle.std.proofs.Math.Seq.{take-length}
use Rattle.std.proofs.lemmas.Str.{length-encode, chars-nil}
use Rattle.std.specs.Char.{encode_utf8, len_utf8}
use Rattle.std.specs.Str.{chars, encode_utf8_all}
use Rattle.page_text.specs.Characters.{begun}
use Rattle.page_text.specs.Plain.{are_plain, marks_from}
use Rattle.page_text.specs.Model.{Reading, Stands, after, due}
use Rattle.page_text.specs.declared.Mark.{Mark}
use Rattle.page_text.proofs.Plain.{plain-encodes}
use Rattle.page_text.proofs.Readings.{stands-after, begun-due}
use Rattle.page_constructs.specs.Constructs.{counted, spread}
use Rattle.page_tree.proofs.PlacingLaws.{spread-append, counted-append}

-- the bytes of characters one behind another
pub spread-marks : (at : ℕ) (cs : List ℕ) → spread (marks_from at cs) ≡ counted at (encode_utf8_all cs)
spread-marks at [] = refl
spread-marks at (c ∷ cs) =
    ap (λ z. counted at (encode_utf8 c) ++ z)
    (spread-marks (at + len_utf8 c) cs ∙ ap (λ n. counted (at + n) (encode_utf8_all cs)) (sym (length-encode c)))
    ∙ sym (counted-append at (encode_utf8 c) (encode_utf8_all cs))

module _ (f f1 : Reading) (b text piece : List ℕ) (s : Stands f b) (is : f1 ≡ after f text) (due_is : due f text ≡ marks_from f.pushed (chars text)) where
  stands : Stands f1 (b ++ text)
  stands = subst (λ x. Stands x (b ++ text)) (sym is) (stands-after f b text s)

  -- plain characters
  module _ (plain : are_plain text ≡ true) (front : text ≡ take (length text) piece) where
    pub run-stands : Stands f1 (b ++ take (length text) piece)
    run-stands = subst (λ x. Stands f1 (b ++ x)) front stands

    pub run-begun : spread (begun (b ++ take (length text) piece)) ≡ spread (begun b) ++ counted f.pushed text
    run-begun =
        ap (λ x. spread (begun (b ++ x))) (sym front) ∙ ap spread (begun-due f b text s) ∙ spread-append (begun b) (due f text)
        ∙ ap (λ x. spread (begun b) ++ spread x) due_is ∙ ap (λ x. spread (begun b) ++ x) (spread-marks f.pushed (chars text) ∙ ap (counted f.pushed) (plain-encodes text plain))

  -- none of them, and then a byte
  module _ (none : text ≡ []) (byte : ℕ) (f2 : Reading) (ms : List Mark) (next : f2 ≡ after f1 (byte ∷ [])) (given : ms ≡ due f1 (byte ∷ [])) (cut : take 1 piece ≡ byte ∷ []) where
    same : (b ++ text) ++ byte ∷ [] ≡ b ++ take 1 piece
    same = ap (λ x. (b ++ x) ++ byte ∷ []) none ∙ ap (λ x. x ++ byte ∷ []) (append-nil b) ∙ ap (λ x. b ++ x) (sym cut)

    pub byte-stands : Stands f2 (b ++ take 1 piece)
    byte-stands = subst (Stands f2) same (subst (λ x. Stands x ((b ++ text) ++ byte ∷ [])) (sym next) (stands-after f1 (b ++ text) (byte ∷ []) stands))

    before : begun (b ++ text) ≡ begun b
    before = begun-due f b text s ∙ ap (λ x. begun b ++ x) (due_is ∙ ap (λ t. marks_from f.pushed (chars t)) none ∙ ap (marks_from f.pushed) chars-nil) ∙ append-nil (begun b)

    pub byte-begun : begun (b ++ take 1 piece) ≡ begun b ++ ms
    byte-begun = ap begun (sym same) ∙ begun-due f1 (b ++ text) (byte ∷ []) stands ∙ (λ i. before i ++ sym given i)

pub one-taken : (piece : List ℕ) (d : ℕ) → 0 < length piece → take 1 piece ≡ get_or piece 0 d ∷ []
one-taken [] d h = absurd (omega arith)
one-taken (x ∷ piece) d h = refl

-- a front, and a front of the rest
pub taken-on : (b piece : List ℕ) (at n : ℕ) → at ≤ length piece → (b ++ take at piece) ++ take n (drop at piece) ≡ b ++ take (at + n) piece
taken-on b piece at n h = append_assoc b (take at piece) (take n (drop at piece)) ∙ ap (λ x. b ++ x) (on at piece h) where
  on : (at : ℕ) (xs : List ℕ) → at ≤ length xs → take at xs ++ take n (drop at xs) ≡ take (at + n) xs
  on zero xs l = ap (λ m. take m xs) (omega arith)
  on (suc at) [] l = absurd (omega arith)
  on (suc at) (x ∷ xs) l = ap (λ t. x ∷ t) (on at xs (omega arith)) ∙ (let z : suc (at + n) ≡ suc at + n = omega arith in ap (λ m. take m (x ∷ xs)) z)

-- the slice from a place on
pub slice-rest : (piece : List ℕ) (at : ℕ) → take (length piece - at) (drop at piece) ≡ drop at piece
slice-rest piece at = ap (λ m. take m (drop at piece)) (sym (length-drop at piece)) ∙ take-length (drop at piece)

pub taken-slice : (b piece : List ℕ) (at n : ℕ) → at ≤ length piece → (b ++ take at piece) ++ take n (take (length piece - at) (drop at piece)) ≡ b ++ take (at + n) piece
taken-slice b piece at n h = ap (λ x. (b ++ take at piece) ++ take n x) (slice-rest piece at) ∙ taken-on b piece at n h

pub taken-all : (b piece : List ℕ) (m : ℕ) → (b ++ take m piece) ++ drop m piece ≡ b ++ piece
taken-all b piece m = append_assoc b (take m piece) (drop m piece) ∙ ap (λ x. b ++ x) (take-append-drop m piece)

pub on-both : {A E P P' Q : Type 0} (r : Result A E) → (P → P' → Q) → OnOk r P → OnOk r P' → OnOk r Q
on-both (Ok x) f p q = f p q
on-both (Err e) f p q = tt
