-- Where the bytes of a text stand in the page.
use Rattle.std.proofs.Common.{◌≡◌, ◌≢◌, ℕ, zero, suc, ◌+◌, ◌-◌, ◌<◌, ◌≤◌, ◌==◌, false, List, [], ◌∷◌, ◌++◌, length, drop, Some, None, refl, sym, ap, ◌∙◌, arith, append_assoc, encode_utf8, if◌then◌else◌, length-drop}
use Rattle.std.proofs.lemmas.List.{drop-append-le, map-append, drop-map}
use Rattle.std.proofs.Math.Seq.{drop-nil}
use Rattle.std.proofs.Math.ListN.{drop_of_length-le}
use Rattle.page_text.specs.declared.Mark.{Mark}
use Rattle.page_constructs.specs.Constructs.{Byte, values, counted, offset_of, first_offset, spread}
use Rattle.page_tree.specs.TextPlaces.{offset_at, IsPlaced}
use Rattle.page_tree.specs.declared.pending.Places.{Places}
use Rattle.page_tree.proofs.PieceLaws.{length-values}
use Rattle.page_constructs.proofs.SizeLaws.{other-number}

pub spread-append : (ms ns : List Mark) → spread (ms ++ ns) ≡ spread ms ++ spread ns
spread-append [] ns = refl
spread-append (m ∷ ms) ns = ap (λ t. counted m.offset (encode_utf8 m.ch) ++ t) (spread-append ms ns) ∙ sym (append_assoc (counted m.offset (encode_utf8 m.ch)) (spread ms) (spread ns))

pub values-counted : (at : ℕ) (xs : List ℕ) → values (counted at xs) ≡ xs
values-counted at [] = refl
values-counted at (x ∷ xs) = ap (λ t. x ∷ t) (values-counted (at + 1) xs)

pub counted-append : (at : ℕ) (xs ys : List ℕ) → counted at (xs ++ ys) ≡ counted at xs ++ counted (at + length xs) ys
counted-append at [] ys = ap (λ n. counted n ys) (omega arith)
counted-append at (x ∷ xs) ys = ap (λ t. record { value = x; at = at } ∷ t) (counted-append (at + 1) xs ys ∙ ap (λ n. counted (at + 1) xs ++ counted n ys) (omega arith))

drop-counted : (k at : ℕ) (xs : List ℕ) → drop k (counted at xs) ≡ counted (at + k) (drop k xs)
drop-counted zero at xs = ap (λ n. counted n xs) (omega arith)
drop-counted (suc k) at [] = refl
drop-counted (suc k) at (x ∷ xs) = drop-counted k (at + 1) xs ∙ ap (λ n. counted n (drop k xs)) (omega arith)

pub drop-behind : {A : Type 0} (k at : ℕ) (us : List A) → drop k (drop at us) ≡ drop (at + k) us
drop-behind k zero us = ap (λ m. drop m us) (omega arith)
drop-behind k (suc at) [] = drop-nil k ∙ sym (drop-nil (suc at + k))
drop-behind k (suc at) (u ∷ us) = drop-behind k at us ∙ (let z : suc (at + k) ≡ suc at + k = omega arith in ap (λ m. drop m (u ∷ us)) z)

-- as many bytes as offsets
pub same-length : (text : List ℕ) (p : Places) (us : List Byte) → IsPlaced text p us → length us ≡ length text
same-length text p us h = sym (length-values us) ∙ ap length h.says

pub says-behind : (text : List ℕ) (p : Places) (us : List Byte) (k : ℕ) → IsPlaced text p us → values (drop k us) ≡ drop k text
says-behind text p us k h = sym (drop-map (λ u. u.value) k us) ∙ ap (drop k) h.says

pub placed-none : (p : Places) → IsPlaced [] p []
placed-none p = record { says = refl; front = λ u more e. absurd (cc); back = drop-nil p.even ∙ sym (ap (counted p.base) (drop-nil p.even)) }

first-counted : (at : ℕ) (xs : List ℕ) (u : Byte) (more : List Byte) → counted at xs ≡ u ∷ more → u.at ≡ at
first-counted at [] u more e = absurd (cc)
first-counted at (x ∷ xs) u more e = let z : record { value = x; at = at } ≡ u = cc in sym (ap (λ v. v.at) z)

-- a text behind another
pub placed-append : (text t : List ℕ) (p : Places) (o : ℕ) (us : List Byte) → p.even ≤ length text → o + p.even ≡ p.base + length text → (text ≡ [] → p.start ≡ o)
    → IsPlaced text p us → IsPlaced (text ++ t) p (us ++ counted o t)
placed-append text t p o us room next first h = record { says = says; front = front us refl; back = back } where
  says : values (us ++ counted o t) ≡ text ++ t
  says = map-append (λ u. u.value) us (counted o t) ∙ (λ i. h.says i ++ values-counted o t i)

  front : (vs : List Byte) → us ≡ vs → (u : Byte) (more : List Byte) → us ++ counted o t ≡ u ∷ more → u.at ≡ p.start
  front [] e u more q = first-counted o t u more (ap (λ x. x ++ counted o t) (sym e) ∙ q) ∙ sym (first (sym h.says ∙ ap values e))
  front (v ∷ vs) e u more q =
      let z : v ∷ (vs ++ counted o t) ≡ u ∷ more = ap (λ x. x ++ counted o t) (sym e) ∙ q in
      let w : v ≡ u = cc in
      sym (ap (λ b. b.at) w) ∙ h.front v vs e

  back : drop p.even (us ++ counted o t) ≡ counted p.base (drop p.even (text ++ t))
  back =
      let l = same-length text p us h in
      let d = length-drop p.even text in
      drop-append-le p.even us (counted o t) (omega arith) ∙ ap (λ x. x ++ counted o t) h.back
      ∙ ap (λ n. counted p.base (drop p.even text) ++ counted n t) (let z : o ≡ p.base + length (drop p.even text) = omega arith in z)
      ∙ sym (counted-append p.base (drop p.even text) t) ∙ ap (counted p.base) (sym (drop-append-le p.even text t room))

-- the next byte stands elsewhere
pub placed-skip : (text : List ℕ) (p q : Places) (us : List Byte) (o : ℕ) → q.even ≡ length text → q.base ≡ o → (0 < length text → q.start ≡ p.start) → IsPlaced text p us → IsPlaced text q us
placed-skip text p q us o even base start h = record {
  says = h.says;
  front = λ u more e. let l = same-length text p us h in let m : length us ≡ suc (length more) = ap length e in h.front u more e ∙ sym (start (omega arith));
  back =
      let l = same-length text p us h in
      drop_of_length-le us (omega arith) ∙ sym (ap (counted q.base) (drop_of_length-le text (omega arith)));
}

-- what is left of it
behind-even : (text : List ℕ) (p : Places) (us : List Byte) (k : ℕ) → p.even ≤ k → IsPlaced text p us → drop k us ≡ counted (p.base + (k - p.even)) (drop k text)
behind-even text p us k room h =
    let cut : p.even + (k - p.even) ≡ k = omega arith in
    ap (λ n. drop n us) (sym cut) ∙ sym (drop-behind (k - p.even) p.even us) ∙ ap (drop (k - p.even)) h.back ∙ drop-counted (k - p.even) p.base (drop p.even text)
    ∙ ap (counted (p.base + (k - p.even))) (drop-behind (k - p.even) p.even text ∙ ap (λ n. drop n text) cut)

pub placed-drop : (text : List ℕ) (p q : Places) (us : List Byte) (k : ℕ) → p.even ≤ k → q.start ≡ p.base + (k - p.even) → q.even ≡ 0 → q.base ≡ p.base + (k - p.even) → IsPlaced text p us
    → IsPlaced (drop k text) q (drop k us)
placed-drop text p q us k room start even base h =
    let b = behind-even text p us k room h in
    record {
      says = says-behind text p us k h;
      front = λ u more e. first-counted (p.base + (k - p.even)) (drop k text) u more (sym b ∙ e) ∙ sym start;
      back = ap (λ n. drop n (drop k us)) even ∙ b ∙ ap (λ n. counted n (drop k text)) (sym base) ∙ sym (ap (λ n. counted q.base (drop n (drop k text))) even);
    }

first-is : (us : List Byte) (o : ℕ) → 0 < length us → ((u : Byte) (more : List Byte) → us ≡ u ∷ more → u.at ≡ o) → first_offset us ≡ Some o
first-is [] o h f = absurd (omega arith)
first-is (u ∷ us) o h f = ap Some (f u us refl)

offset-is : (us : List Byte) (o : ℕ) → first_offset us ≡ Some o → offset_of us ≡ o
offset-is [] o e = absurd (cc)
offset-is (u ∷ us) o e = cc

-- the offset at a place
pub first-at : (text : List ℕ) (p : Places) (us : List Byte) (at : ℕ) → (at ≢ 0 → p.even ≤ at) → at < length text → IsPlaced text p us → first_offset (drop at us) ≡ Some (offset_at p at)
first-at text p us zero behind room h = first-is us p.start (let l = same-length text p us h in omega arith) h.front
first-at text p us (suc at) behind room h =
    let b = behind-even text p us (suc at) (behind (λ e. absurd (omega arith))) h in
    let l = same-length text p us h in
    let n : (suc at == 0) ≡ false = other-number (suc at) 0 (λ e. absurd (omega arith)) in
    first-is (drop (suc at) us) (p.base + (suc at - p.even)) (let d = length-drop (suc at) us in omega arith) (λ u more e. first-counted (p.base + (suc at - p.even)) (drop (suc at) text) u more (sym b ∙ e))
    ∙ ap (λ t. Some (if t then p.start else p.base + (suc at - p.even))) (sym n)

pub offset-first : (text : List ℕ) (p : Places) (us : List Byte) (at : ℕ) → (at ≢ 0 → p.even ≤ at) → at < length text → IsPlaced text p us → offset_of (drop at us) ≡ offset_at p at
offset-first text p us at behind room h = offset-is (drop at us) (offset_at p at) (first-at text p us at behind room h)

pub first-none : (text : List ℕ) (p : Places) (us : List Byte) (at : ℕ) → length text ≤ at → IsPlaced text p us → first_offset (drop at us) ≡ None
first-none text p us at room h = let l = same-length text p us h in ap first_offset (drop_of_length-le us (omega arith))
