-- Orders: their canonical form.
use Rattle.std.proofs.Common.{◌≡◌, ◌∙◌, ap, sym, subst, ℕ, pos, ◌-◌, Bool, true, false, not, List, [], ◌++◌, length, take, drop, replicate, append-nil, ◌==◌, arith}
use Rattle.std.specs.Prelude.{◌&&◌, if◌then◌else◌}
use Rattle.ix_base.specs.Decimals.{front_of, back_of, whole}
use Rattle.ix_base.specs.Forms.{is_negative, is_unsigned, unsigned_of}
use Rattle.scale_sign.specs.Scaled.{IsNumber, signed}
use Rattle.scale_sign.specs.WrittenDigits.{moved_decimal, written}
use Rattle.scale_sign.proofs.Laws.{number-is, one_number}
use Rattle.value_forms.proofs.DecimalLaws.{unsigned_is}
use Rattle.footnotes.specs.FootnoteLinks.{canonical_decimal, canonical_order}

moved-none : (f b : List ℕ) → moved_decimal (pos 0) f b ≡ written f b
moved-none f b =
    let z : 0 - length b ≡ 0 = omega arith in
    let front : (f ++ take 0 b) ++ replicate (0 - length b) 48 ≡ f = ap (λ n. (f ++ take 0 b) ++ replicate n 48) z ∙ append-nil (f ++ []) ∙ append-nil f in
    ap (λ x. written x (drop 0 b)) front

-- the number of a decimal is its canonical form
pub canonical-is : (text t : List ℕ) → is_unsigned (unsigned_of text) ≡ true → IsNumber (unsigned_of text) (pos 0) (is_negative text) t → t ≡ canonical_order text
canonical-is text t e h =
    let d = unsigned_of text in
    one_number d (pos 0) (is_negative text) t _ h (number-is d (pos 0) (is_negative text) (unsigned_is d e))
    ∙ ap (signed (is_negative text && not (whole d == 0))) (moved-none (front_of d) (back_of d))
    ∙ sym (ap (λ (b : Bool). if b then canonical_decimal text else text) e)

-- what isn't a decimal stands as it is
pub other-is : (text : List ℕ) → is_unsigned (unsigned_of text) ≡ false → text ≡ canonical_order text
other-is text e = sym (ap (λ (b : Bool). if b then canonical_decimal text else text) e)

-- the same from the parts of the text
pub canonical-by : (text digits : List ℕ) (negative : Bool) → digits ≡ unsigned_of text → negative ≡ is_negative text → is_unsigned digits ≡ true
    → (t : List ℕ) → IsNumber digits (pos 0) negative t → t ≡ canonical_order text
canonical-by text digits negative d n e t h =
    canonical-is text t (sym (ap is_unsigned d) ∙ e) (subst (λ b. IsNumber (unsigned_of text) (pos 0) b t) n (subst (λ x. IsNumber x (pos 0) negative t) d h))
