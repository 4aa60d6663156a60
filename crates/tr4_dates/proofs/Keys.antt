-- An ASCII character of a text stands, in lower case, at its place in the text's key.
use Rattle.std.proofs.Common.{◌≡◌, ℕ, ◌<◌, List, [], ◌∷◌, ◌++◌, length, take, drop, get_or, map, chars, IsUtf8, true, ◌≤◌, ◌+◌, subst, refl, sym, ap, ◌∙◌, arith}
use Rattle.std.proofs.lemmas.Bool.Decides.{nat_tests}
use Rattle.std.proofs.lemmas.Str.{chars-append, IsUtf8-take, IsUtf8-drop, IsCharBoundary-before_ascii, IsCharBoundary-after_ascii, chars-nil, chars_past_char, encode_ascii}
use Rattle.std.specs.Char.{to_ascii_lowercase}
use Rattle.std.proofs.Common.{add-one, suc}
use Rattle.std.proofs.Math.Seq.{drop-append_seam}
use Rattle.std.proofs.lemmas.Bool.{and_parts}
use Rattle.tr4_dates.specs.Runs.{class_of, alphanumerics, all_in}
use Rattle.unicode_normalization.proofs.FormsLemmas.{normalize-nil}
use Rattle.caseless.proofs.CaselessLemmas.{default_case_fold-nil}
use Rattle.ucd_case.proofs.CaseFoldingLemmas.{full_fold-ascii}
use Rattle.unicode_normalization.specs.Forms.{Nfd, nfd}
use Rattle.unicode_normalization.proofs.FormsLemmas.{normalize-Nfd, normalize-ascii_boundary, decomposed-passing, is_final-Nfd, quick_check-ascii, class-latin}
use Rattle.caseless.specs.Caseless.{default_case_fold, canonical_key}
use Rattle.caseless.proofs.CaselessLemmas.{default_case_fold-cons, default_case_fold-append}

lower_ascii : (c : ℕ) → c < 128 → to_ascii_lowercase c < 128
lower_ascii c h = grind (arith, nat_tests)

nfd_at : (x : ℕ) (ys : List ℕ) → x < 128 → nfd (x ∷ ys) ≡ x ∷ nfd ys
nfd_at x ys h =
    let low : x < 0x300 = omega arith in
    let class = class-latin x low in
    normalize-Nfd _ ∙ decomposed-passing Nfd x ys (is_final-Nfd x (quick_check-ascii Nfd x h)) (omega arith)
    ∙ ap (λ l. x ∷ l) (sym (normalize-Nfd ys))

nfd_parted : (xs : List ℕ) (x : ℕ) (ys : List ℕ) → x < 128 → nfd (xs ++ x ∷ ys) ≡ nfd xs ++ x ∷ nfd ys
nfd_parted xs x ys h = normalize-ascii_boundary Nfd xs x ys h ∙ ap (λ l. nfd xs ++ l) (nfd_at x ys h)

fold_at : (x : ℕ) (ys : List ℕ) → x < 128 → default_case_fold (x ∷ ys) ≡ to_ascii_lowercase x ∷ default_case_fold ys
fold_at x ys h = default_case_fold-cons x ys ∙ ap (λ l. l ++ default_case_fold ys) (full_fold-ascii x h)

fold_parted : (xs : List ℕ) (x : ℕ) (ys : List ℕ) → x < 128
    → default_case_fold (xs ++ x ∷ ys) ≡ default_case_fold xs ++ to_ascii_lowercase x ∷ default_case_fold ys
fold_parted xs x ys h = default_case_fold-append xs (x ∷ ys) ∙ ap (λ l. default_case_fold xs ++ l) (fold_at x ys h)

pub key_at : (x : ℕ) (ys : List ℕ) → x < 128 → canonical_key (x ∷ ys) ≡ to_ascii_lowercase x ∷ canonical_key ys
key_at x ys h =
    ap (λ l. nfd (default_case_fold l)) (nfd_at x ys h) ∙ ap nfd (fold_at x (nfd ys) h)
    ∙ nfd_at (to_ascii_lowercase x) _ (lower_ascii x h)

pub key_parted : (xs : List ℕ) (x : ℕ) (ys : List ℕ) → x < 128
    → canonical_key (xs ++ x ∷ ys) ≡ canonical_key xs ++ to_ascii_lowercase x ∷ canonical_key ys
key_parted xs x ys h =
    ap (λ l. nfd (default_case_fold l)) (nfd_parted xs x ys h) ∙ ap nfd (fold_parted (nfd xs) x (nfd ys) h)
    ∙ nfd_parted (default_case_fold (nfd xs)) (to_ascii_lowercase x) _ (lower_ascii x h)

pub key-nil : canonical_key [] ≡ []
key-nil = ap (λ l. nfd (default_case_fold l)) (normalize-nil Nfd) ∙ ap nfd default_case_fold-nil ∙ normalize-nil Nfd

-- ---- the same of the bytes of a text

take-seam : (xs ys : List ℕ) → take (length xs) (xs ++ ys) ≡ xs
take-seam [] ys = refl
take-seam (x ∷ xs) ys = ap (λ l. x ∷ l) (take-seam xs ys)

get-seam : (xs : List ℕ) (y : ℕ) (ys : List ℕ) → get_or (xs ++ y ∷ ys) (length xs) 0 ≡ y
get-seam [] y ys = refl
get-seam (x ∷ xs) y ys = get-seam xs y ys

length-seam : (xs : List ℕ) (y : ℕ) (ys : List ℕ) → length xs < length (xs ++ y ∷ ys)
length-seam [] y ys = omega arith
length-seam (x ∷ xs) y ys = let h = length-seam xs y ys in omega arith

drop-suc : (xs : List ℕ) (y : ℕ) (ys : List ℕ) → drop (suc (length xs)) (xs ++ y ∷ ys) ≡ ys
drop-suc [] y ys = refl
drop-suc (x ∷ xs) y ys = drop-suc xs y ys

drop-past : (xs : List ℕ) (y : ℕ) (ys : List ℕ) → drop (length xs + 1) (xs ++ y ∷ ys) ≡ ys
drop-past xs y ys = rw add-one (drop-suc xs y ys)

pub record IsParted (u : List ℕ) (b : ℕ) (v : List ℕ) : Type 0 where
  pub front : IsUtf8 u
  pub back : IsUtf8 v
  pub chars_parted : chars (u ++ b ∷ v) ≡ chars u ++ b ∷ chars v

pub parted : (u : List ℕ) (b : ℕ) (v : List ℕ) → b < 128 → IsUtf8 (u ++ b ∷ v) → IsParted u b v
parted u b v ascii text =
    let at : get_or (u ++ b ∷ v) (length u) 0 < 128 = subst (λ n. n < 128) (sym (get-seam u b v)) ascii in
    let within = length-seam u b v in
    let before = IsCharBoundary-before_ascii (u ++ b ∷ v) (length u) within at in
    let past = IsCharBoundary-after_ascii (u ++ b ∷ v) (length u) text within at in
    let front : IsUtf8 u = subst IsUtf8 (take-seam u (b ∷ v)) (IsUtf8-take (u ++ b ∷ v) (length u) text before) in
    let middle : IsUtf8 (b ∷ v) =
    subst IsUtf8 (drop-append_seam u (b ∷ v)) (IsUtf8-drop (u ++ b ∷ v) (length u) text before) in
    let back : IsUtf8 v = subst IsUtf8 (drop-past u b v) (IsUtf8-drop (u ++ b ∷ v) (length u + 1) text past) in
    record {
      front = front;
      back = back;
      chars_parted =
          chars-append u (b ∷ v) front
          ∙ ap (λ l. chars u ++ l) (chars_past_char (b ∷ v) v b middle (ap (λ l. l ++ v) (sym (encode_ascii b ascii))));
    }

ascii_of : (b : ℕ) → alphanumerics (class_of b) ≡ true → b < 128
ascii_of b h = grind (arith, nat_tests)

pub key_word : (u w v : List ℕ) → IsUtf8 (u ++ (w ++ v)) → 1 ≤ length w → all_in alphanumerics w ≡ true
    → canonical_key (chars (u ++ (w ++ v))) ≡ canonical_key (chars u) ++ (map to_ascii_lowercase w ++ canonical_key (chars v))
unfolding all_in
key_word u [] v text some all = absurd (omega arith)
key_word u (b ∷ []) v text some all =
    let ascii = ascii_of b (and_parts (alphanumerics (class_of b)) _ all).0 in
    let p = parted u b v ascii text in
    ap canonical_key p.chars_parted ∙ key_parted (chars u) b (chars v) ascii
key_word u (b ∷ c ∷ w) v text some all =
    let parts = and_parts (alphanumerics (class_of b)) _ all in
    let ascii = ascii_of b parts.0 in
    let p = parted u b ((c ∷ w) ++ v) ascii text in
    let next = key_word [] (c ∷ w) v p.back (omega arith) parts.1 in
    let empty = ap canonical_key chars-nil ∙ key-nil in
    ap canonical_key p.chars_parted ∙ key_parted (chars u) b (chars ((c ∷ w) ++ v)) ascii
    ∙ ap (λ l. canonical_key (chars u) ++ to_ascii_lowercase b ∷ l) (next ∙ ap (λ l. l ++ (map to_ascii_lowercase (c ∷ w) ++ canonical_key (chars v))) empty)
