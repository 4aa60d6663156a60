-- The characters of a page make bytes of allowed characters, whose offsets rise.
use Rattle.std.proofs.Common.{◌≡◌, ℕ, suc, ◌+◌, ◌≤◌, true, List, [], ◌∷◌, ◌++◌, length, refl, sym, ap, ◌∙◌, subst, arith, encode_utf8}
use Rattle.std.specs.Char.{len_utf8}
use Rattle.std.proofs.lemmas.List.{map-append}
use Rattle.std.proofs.lemmas.Str.{length-encode}
use Rattle.ix_base.specs.NcName.{are_allowed}
use Rattle.page_text.specs.Characters.{chars}
use Rattle.page_text.specs.Order.{AreInOrder}
use Rattle.page_text.specs.declared.Mark.{Mark}
use Rattle.page_text.proofs.InOrder.{page-in-order}
use Rattle.page_constructs.specs.Constructs.{Byte, counted, spread, values, text_of}
use Rattle.page_constructs.proofs.AllowedText.{allowed-nil, allowed-append, allowed-char}

-- bytes from an offset on, each behind the one before it
abbrev pub BytesClimb : ℕ → List Byte → Type 0
BytesClimb at [] = Unit {0}
BytesClimb at (u ∷ us) = (at ≤ u.at) × BytesClimb (suc u.at) us

pub lower-bytes : (low at : ℕ) (us : List Byte) → low ≤ at → BytesClimb at us → BytesClimb low us
lower-bytes low at [] l c = tt
lower-bytes low at (u ∷ us) l c = ((let z = c.0 in omega arith), c.1)

counted-climbs : (low at : ℕ) (xs : List ℕ) (us : List Byte) → low ≤ at → BytesClimb (at + length xs) us → BytesClimb low (counted at xs ++ us)
counted-climbs low at [] us l c = lower-bytes low (at + 0) us (omega arith) c
counted-climbs low at (x ∷ xs) us l c =
    let n : at + suc (length xs) ≡ at + 1 + length xs = omega arith in
    (l, counted-climbs (suc at) (at + 1) xs us (omega arith) (subst (λ k. BytesClimb k us) n c))

spread-climbs : (at to : ℕ) (ms : List Mark) → AreInOrder at to ms → BytesClimb at (spread ms)
spread-climbs at to [] g = tt
spread-climbs at to (m ∷ ms) g =
    counted-climbs at m.offset (encode_utf8 m.ch) (spread ms) g.1 (subst (λ k. BytesClimb (m.offset + k) (spread ms)) (sym (length-encode m.ch)) (spread-climbs (m.offset + len_utf8 m.ch) to ms g.3))

pub values-counted : (at : ℕ) (xs : List ℕ) → values (counted at xs) ≡ xs
values-counted at [] = refl
values-counted at (x ∷ xs) = ap (λ t. x ∷ t) (values-counted (at + 1) xs)

spread-allowed : (at to : ℕ) (ms : List Mark) → AreInOrder at to ms → are_allowed (values (spread ms)) ≡ true
spread-allowed at to [] g = allowed-nil
spread-allowed at to (m ∷ ms) g =
    ap are_allowed (map-append (λ u. u.value) (counted m.offset (encode_utf8 m.ch)) (spread ms) ∙ ap (λ x. x ++ values (spread ms)) (values-counted m.offset (encode_utf8 m.ch)))
    ∙ allowed-append (encode_utf8 m.ch) (values (spread ms)) (allowed-char m.ch g.0) (spread-allowed (m.offset + len_utf8 m.ch) to ms g.3)

pub page-climbs : (b : List ℕ) → BytesClimb 0 (text_of b)
page-climbs b = spread-climbs 0 (length b) (chars b) (page-in-order b)

pub page-allowed : (b : List ℕ) → are_allowed (values (text_of b)) ≡ true
page-allowed b = spread-allowed 0 (length b) (chars b) (page-in-order b)
