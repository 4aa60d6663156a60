-- The first character of bytes that have no break.
use Rattle.std.proofs.Common.{◌≡◌, ◌∙◌, ℕ, ◌+◌, ◌<◌, ◌≤◌, true, false, Bool, cond, List, ◌∷◌, ◌++◌, length, drop, Option, Some, None, encode_utf8, refl, sym, ap}
use Rattle.bstr.specs.Utf8.{decoded}
use Rattle.bstr.proofs.lemmas.PieceLemmas.{piece-bounds}
use Rattle.bstr.proofs.lemmas.SoundLemmas.{SpellsChar-decoded}
use Rattle.page_text.specs.Characters.{mark, scan}
use Rattle.ix_base.specs.NcName.{is_allowed}
use Rattle.page_text.specs.Fronts.{front, front_on, is_part}
use Rattle.page_text.specs.declared.fronts.Front.{Front}
use Rattle.page_text.specs.declared.fronts.Front.TheVariants.{Allowed, Banned, Part, Ill}
use Rattle.page_text.proofs.Scans.{scan-front}

-- a character at the front, which is written so, and what is behind it
pub record IsNext (at : ℕ) (bs : List ℕ) : Type 0 where
  pub char : ℕ
  pub size : ℕ
  pub some : 1 ≤ size
  pub is : (decoded bs).char ≡ Some char
  pub bytes : bs ≡ encode_utf8 char ++ drop size bs
  pub width : length (encode_utf8 char) ≡ size
  pub marks : (scan true at bs).marks ≡ mark char at ∷ (scan true (at + size) (drop size bs)).marks
  pub stop : (scan true (at + size) (drop size bs)).stop ≡ None

front-allowed : (o : Option ℕ) (bs : List ℕ) (c : ℕ) → front_on o bs ≡ Allowed c → o ≡ Some c
front-allowed None bs c e = by (is_part bs) e where
  by : (b : Bool) → (cond b Part Ill) ≡ Allowed c → None ≡ Some c
  by true e = absurd (cc)
  by false e = absurd (cc)
front-allowed (Some d) bs c e = by (is_allowed d) e where
  by : (b : Bool) → (cond b (Allowed d) Banned) ≡ Allowed c → Some d ≡ Some c
  by true e = cc
  by false e = absurd (cc)

pub next-char : (at : ℕ) (bs : List ℕ) → 0 < length bs → (scan true at bs).stop ≡ None → IsNext at bs
next-char at bs l s = by (front bs) refl where
  by : (f : Front) → front bs ≡ f → IsNext at bs
  by (Allowed c) e =
      let here = scan-front true at bs (Allowed c) l e in
      let k = front-allowed (decoded bs).char bs c e in
      let d = SpellsChar-decoded bs c k in
      record {
        char = c;
        size = (decoded bs).size;
        some = (piece-bounds bs l).0;
        is = k;
        bytes = d.bytes;
        width = d.width;
        marks = ap (λ z. z.marks) here;
        stop = sym (ap (λ z. z.stop) here) ∙ s;
      }
  by Banned e = absurd (let here = scan-front true at bs Banned l e in let k = sym (ap (λ z. z.stop) here) ∙ s in cc)
  by Part e = absurd (let here = scan-front true at bs Part l e in let k = sym (ap (λ z. z.stop) here) ∙ s in cc)
  by Ill e = absurd (let here = scan-front true at bs Ill l e in let k = sym (ap (λ z. z.stop) here) ∙ s in cc)
