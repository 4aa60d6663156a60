-- Texts that are written character by character.
use Rattle.std.proofs.Common.{◌≡◌, ◌∙◌, ap, sym, ℕ, suc, ◌<◌, ◌≤◌, ◌==◌, true, false, is_none, List, [], ◌∷◌, ◌++◌, length, take, get_or, Option, Some, None, option_map, refl, append_assoc, append-nil, arith, ⊎_elim}
use Rattle.std.specs.Char.{encode_utf8}
use Rattle.std.proofs.lemmas.Str.{encode_ascii, inside_one}
use Rattle.std.specs.List.{list_all}
use Rattle.std.proofs.lemmas.Bool.{and_parts, cases_lt}
use Rattle.std.proofs.lemmas.Bool.Decides.{nat_tests}
use Rattle.std.proofs.Math.Seq.{take-append_seam}
use Rattle.ix_base.specs.Escapes.{te_ref, ae_ref, is_own, put, escaped, written_as}
use Rattle.ix_base.specs.Fronts.{AppendsFront}

-- a table of ASCII characters alone
pub record IsLow (table : ℕ → Option (List ℕ)) : Type 0 where
  pub high : (c : ℕ) → 128 ≤ c → table c ≡ None

pub te_low : IsLow te_ref
te_low = record { high = λ c h. te_high c h }
  where
    te_high : (c : ℕ) → 128 ≤ c → te_ref c ≡ None
    te_high c h =
        let a : (c == 38) ≡ false = grind (arith, nat_tests) in
        let b : (c == 60) ≡ false = grind (arith, nat_tests) in
        let d : (c == 62) ≡ false = grind (arith, nat_tests) in
        let e : (c == 13) ≡ false = grind (arith, nat_tests) in
        rw (a, b, d, e) refl

pub ae_low : IsLow ae_ref
ae_low = record { high = λ c h. ae_high c h }
  where
    ae_high : (c : ℕ) → 128 ≤ c → ae_ref c ≡ None
    ae_high c h =
        let a : (c == 34) ≡ false = grind (arith, nat_tests) in
        let b : (c == 9) ≡ false = grind (arith, nat_tests) in
        let d : (c == 10) ≡ false = grind (arith, nat_tests) in
        rw (a, b, d) (te_low.high c h)

-- all bytes from 128 on
abbrev High : List ℕ → Type 0
High [] = Unit {0}
High (x ∷ xs) = (128 ≤ x) × High xs

high-by : (xs : List ℕ) → ((k : ℕ) → k < length xs → 128 ≤ get_or xs k 0) → High xs
high-by [] h = tt
high-by (x ∷ xs) h = (h 0 (omega arith), high-by xs (λ k l. h (suc k) (omega arith)))

high-encode : (c : ℕ) → 128 ≤ c → High (encode_utf8 c)
high-encode c h = high-by (encode_utf8 c) (λ k l. ⊎_elim (λ low. (let e = inside_one c [] (encode_utf8 c) k (sym (append-nil (encode_utf8 c))) l low in omega arith)) (λ high. high) (cases_lt (get_or (encode_utf8 c) k 0) 128))

escaped-high : (table : ℕ → Option (List ℕ)) → IsLow table → (xs ys : List ℕ) → High xs → escaped table (xs ++ ys) ≡ xs ++ escaped table ys
escaped-high table low [] ys h = refl
escaped-high table low (x ∷ xs) ys h = rw (low.high x h.0) (ap (λ z. x ∷ z) (escaped-high table low xs ys h.1))

-- characters that are written as themselves
pub escaped-own : (table : ℕ → Option (List ℕ)) (t : List ℕ) → list_all (is_own table) t ≡ true → escaped table t ≡ t
escaped-own table [] h = refl
escaped-own table (c ∷ t) h =
    let parts = and_parts (is_own table c) (list_all (is_own table) t) h in
    ap (λ r. put r c (escaped table t)) (none (table c) parts.0) ∙ ap (λ x. c ∷ x) (escaped-own table t parts.1) where
      none : (r : Option (List ℕ)) → is_none r ≡ true → r ≡ None
      none None h = refl
      none (Some x) h = absurd (cc)

abbrev whole : Option (List ℕ) → Option (List ℕ)
whole = option_map (λ r. 38 ∷ r)

put_low : (r : Option (List ℕ)) (c : ℕ) (more : List ℕ) → encode_utf8 c ≡ c ∷ [] → put r c more ≡ written_as c (whole r) ++ more
put_low None c more e = ap (λ x. x ++ more) (sym e)
put_low (Some r) c more e = refl

-- one character
escaped-encode : (table : ℕ → Option (List ℕ)) → IsLow table → (c : ℕ) (rest : List ℕ) → escaped table (encode_utf8 c ++ rest) ≡ written_as c (whole (table c)) ++ escaped table rest
escaped-encode table low c rest = ⊎_elim
    (λ h. ap (λ x. escaped table (x ++ rest)) (encode_ascii c h) ∙ put_low (table c) c (escaped table rest) (encode_ascii c h))
    (λ h. escaped-high table low (encode_utf8 c) rest (high-encode c h) ∙ ap (λ r. written_as c (whole r) ++ escaped table rest) (sym (low.high c h)))
    (cases_lt c 128)

-- a text to which the front of another was appended, up to this rest
pub record HasFront (table : ℕ → Option (List ℕ)) (old new text rest : List ℕ) : Type 0 where
  pub done : List ℕ
  pub is : new ≡ old ++ done
  pub all : done ++ escaped table rest ≡ escaped table text

pub front-start : (table : ℕ → Option (List ℕ)) (old text rest : List ℕ) → rest ≡ text → HasFront table old old text rest
front-start table old text rest e = record { done = []; is = sym (append-nil old); all = ap (escaped table) e }

pub front-next : (table : ℕ → Option (List ℕ)) → IsLow table → (old new new' text s rest : List ℕ) (c : ℕ) (reference : Option (List ℕ)) → HasFront table old new text s
    → s ≡ encode_utf8 c ++ rest → reference ≡ whole (table c) → new' ≡ new ++ written_as c reference → HasFront table old new' text rest
front-next table low old new new' text s rest c reference had first ref more = record {
  done = had.done ++ written_as c reference;
  is = more ∙ ap (λ x. x ++ written_as c reference) had.is ∙ append_assoc old had.done (written_as c reference);
  all = append_assoc had.done (written_as c reference) (escaped table rest)
      ∙ ap (λ x. had.done ++ x) (ap (λ r. written_as c r ++ escaped table rest) ref ∙ sym (ap (escaped table) first ∙ escaped-encode table low c rest))
      ∙ had.all;
}

pub front-end : (table : ℕ → Option (List ℕ)) (old new text rest : List ℕ) → HasFront table old new text rest → rest ≡ [] → new ≡ old ++ escaped table text
front-end table old new text rest had e = had.is ∙ ap (λ x. old ++ x) (sym (append-nil had.done) ∙ ap (λ r. had.done ++ escaped table r) (sym e) ∙ had.all)

pub front-gains : (table : ℕ → Option (List ℕ)) (old new text rest : List ℕ) → HasFront table old new text rest → AppendsFront (escaped table text) old new
front-gains table old new text rest had = (length had.done, had.is ∙ ap (λ x. old ++ x) (sym (take-append_seam had.done (escaped table rest)) ∙ ap (take (length had.done)) had.all))
