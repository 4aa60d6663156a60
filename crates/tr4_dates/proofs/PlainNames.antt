-- What a month's name has not, whatever characters it is written with.
use Rattle.std.proofs.Common.{◌≡◌, ℕ, ◌≤◌, Bool, true, false, not, ◌&&◌, List, [], ◌∷◌, ◌++◌, length, map, take, chars, codes, IsUtf8, bytes_eq, refl, sym, ap, subst, ◌∙◌, arith, inl, inr, ◌⊎◌, append_assoc, append-nil}
use Rattle.std.specs.Char.{to_ascii_lowercase, is_ascii_digit, is_ascii_lowercase}
use Rattle.std.proofs.lemmas.Bool.{and_parts, and_from, cases_Bool, false≢true, true≢false, or_cases, false_from_ne_true}
use Rattle.std.proofs.lemmas.Bool.Decides.{nat_tests}
use Rattle.std.proofs.lemmas.Str.{chars-nil}
use Rattle.caseless.specs.Caseless.{canonical_key}
use Rattle.tr4_dates.specs.declared.format.Language.{Language}
use Rattle.tr4_dates.specs.Runs.{Class, Digit, Letter, Sign, class_of, letters, others, alphanumerics, all_in, run, after}
use Rattle.tr4_dates.specs.Parts.{IsName, is_link_word}
use Rattle.tr4_dates.specs.Languages.{has_links}
use Rattle.tr4_dates.proofs.RunLemmas.{run_after, all_in-run}
use Rattle.tr4_dates.proofs.Keys.{key_word, key-nil}
use Rattle.tr4_dates.proofs.KeyTests.{is_plain, no_digits, no_digits-at, no_link, has_end, has_end-append, bytes_eq-true, bytes_eq-same}
use Rattle.tr4_dates.proofs.MonthKeys.{name_plain}

empty_key : canonical_key (chars []) ≡ []
empty_key = ap canonical_key chars-nil ∙ key-nil

digit_at : (b : ℕ) → others (class_of b) ≡ false
    → (alphanumerics (class_of b) ≡ true) × (is_ascii_digit (to_ascii_lowercase b) ≡ true)
digit_at b h = (grind (arith, nat_tests), grind (arith, nat_tests))

one : (c : Class) → letters c ≡ true → alphanumerics c ≡ true
one Digit h = absurd (cc)
one Letter h = refl
one Sign h = absurd (cc)

pub letters_ascii : (w : List ℕ) → all_in letters w ≡ true → all_in alphanumerics w ≡ true
unfolding all_in
letters_ascii [] all = refl
letters_ascii (b ∷ bs) all =
    let parts = and_parts (letters (class_of b)) _ all in
    let here : alphanumerics (class_of b) ≡ true = one (class_of b) parts.0 in
    and_from (alphanumerics (class_of b)) _ here (letters_ascii bs parts.1)

-- ---- de and del

unfoldable pub all_low : List ℕ → Bool
all_low [] = true
all_low (b ∷ bs) = is_ascii_lowercase b && all_low bs

letter_from_low : (b : ℕ) → is_ascii_lowercase (to_ascii_lowercase b) ≡ true → letters (class_of b) ≡ true
letter_from_low b h = grind (arith, nat_tests)

pub letters_from_low : (w : List ℕ) → all_low (map to_ascii_lowercase w) ≡ true → all_in letters w ≡ true
unfolding all_low all_in
letters_from_low [] all = refl
letters_from_low (b ∷ bs) all =
    let parts = and_parts (is_ascii_lowercase (to_ascii_lowercase b)) _ all in
    and_from (letters (class_of b)) _ (letter_from_low b parts.0) (letters_from_low bs parts.1)

pub link_words : (w : List ℕ) → is_link_word w ≡ true
    → (map to_ascii_lowercase w ≡ codes "de") ⊎ (map to_ascii_lowercase w ≡ codes "del")
link_words w h =
    elim (or_cases (bytes_eq (map to_ascii_lowercase w) (codes "de")) _ h) [
      | inl de ↦ inl (bytes_eq-true _ _ de)
      | inr del ↦ inr (bytes_eq-true _ _ del)
    ]

low_de : all_low (codes "de") ≡ true
unfolding all_low
low_de = refl

low_del : all_low (codes "del") ≡ true
unfolding all_low
low_del = refl

pub link_letters : (w : List ℕ) → is_link_word w ≡ true → all_in letters w ≡ true
link_letters w h =
    elim (link_words w h) [
      | inl de ↦ letters_from_low w (ap all_low de ∙ low_de)
      | inr del ↦ letters_from_low w (ap all_low del ∙ low_del)
    ]

some_from_word : (w : List ℕ) (c : ℕ) (cs : List ℕ) → map to_ascii_lowercase w ≡ c ∷ cs → 1 ≤ length w
some_from_word [] c cs e = absurd (cc)
some_from_word (b ∷ bs) c cs e = omega arith

pub link_some : (w : List ℕ) → is_link_word w ≡ true → 1 ≤ length w
link_some w h =
    elim (link_words w h) [
      | inl de ↦ some_from_word w _ _ de
      | inr del ↦ some_from_word w _ _ del
    ]

-- ---- what a name has not

pub record IsPlainName (l : Language) (piece : List ℕ) : Type 0 where
  pub no_digit : all_in others piece ≡ true
  pub no_front_link : has_links l ≡ true → is_link_word (run letters piece) ≡ false
  pub no_back_link : has_links l ≡ true → (u w : List ℕ) → piece ≡ u ++ w → is_link_word w ≡ false

module _ (l : Language) (piece : List ℕ) (month : ℕ) (name : IsName l piece month) where
  plain_key : is_plain l (canonical_key (chars piece)) ≡ true
  plain_key = name_plain l piece month name.named

  digitless : no_digits (canonical_key (chars piece)) ≡ true
  unfolding is_plain
  digitless = (and_parts (no_digits (canonical_key (chars piece))) _ plain_key).0

  linkless : has_links l ≡ true → no_link (canonical_key (chars piece)) ≡ true
  unfolding is_plain
  linkless links =
      let parts = and_parts (no_digits (canonical_key (chars piece))) _ plain_key in
      elim (or_cases (not (has_links l)) (no_link (canonical_key (chars piece))) parts.1) [
        | inl none ↦ absurd (false≢true (sym (ap not links) ∙ none))
        | inr linkless_key ↦ linkless_key
      ]

  key_at_word : (u w v : List ℕ) → piece ≡ u ++ (w ++ v) → 1 ≤ length w → all_in alphanumerics w ≡ true
      → canonical_key (chars piece) ≡ canonical_key (chars u) ++ (map to_ascii_lowercase w ++ canonical_key (chars v))
  key_at_word u w v e some all = ap (λ t. canonical_key (chars t)) e ∙ key_word u w v (subst IsUtf8 e name.text) some all

  no_digit_from : (u v : List ℕ) → piece ≡ u ++ v → all_in others v ≡ true
  unfolding all_in
  no_digit_from u [] e = refl
  no_digit_from u (b ∷ bs) e =
      let later = no_digit_from (u ++ b ∷ []) bs (e ∙ sym (append_assoc u (b ∷ []) bs)) in
      elim (cases_Bool (others (class_of b))) [
        | inl other ↦ and_from (others (class_of b)) _ other later
        | inr digit ↦
            let d = digit_at b digit in
            let k = key_at_word u (b ∷ []) bs e (omega arith) (and_from (alphanumerics (class_of b)) true d.0 refl) in
            let no =
            no_digits-at (canonical_key (chars u)) (to_ascii_lowercase b) (canonical_key (chars bs)) (sym (ap no_digits k) ∙ digitless) in
            absurd (true≢false (sym d.1 ∙ no))
      ]

  front_link : has_links l ≡ true → is_link_word (run letters piece) ≡ true → ⊥
  unfolding no_link
  front_link links h =
      let w = run letters piece in
      let k =
      key_at_word [] w (after letters piece) (run_after letters piece) (link_some w h) (letters_ascii w (all_in-run letters piece)) in
      let key = k ∙ ap (λ t. t ++ (map to_ascii_lowercase w ++ canonical_key (chars (after letters piece)))) empty_key in
      let no = (and_parts (not (bytes_eq (take 2 (canonical_key (chars piece))) (codes "de"))) _ (linkless links)).0 in
      let two : take 2 (canonical_key (chars piece)) ≡ codes "de" =
      elim (link_words w h) [
        | inl de ↦ ap (take 2) (key ∙ ap (λ t. t ++ canonical_key (chars (after letters piece))) de)
        | inr del ↦ ap (take 2) (key ∙ ap (λ t. t ++ canonical_key (chars (after letters piece))) del)
      ] in
      absurd (false≢true (sym (ap not (bytes_eq-same _ _ two)) ∙ no))

  back_link : has_links l ≡ true → (u w : List ℕ) → piece ≡ u ++ w → is_link_word w ≡ true → ⊥
  unfolding no_link
  back_link links u w e h =
      let k =
      key_at_word u w [] (e ∙ ap (λ t. u ++ t) (sym (append-nil w))) (link_some w h) (letters_ascii w (link_letters w h)) in
      let key =
      k ∙ ap (λ t. canonical_key (chars u) ++ (map to_ascii_lowercase w ++ t)) empty_key
      ∙ ap (λ t. canonical_key (chars u) ++ t) (append-nil (map to_ascii_lowercase w)) in
      let parts = (and_parts (not (bytes_eq (take 2 (canonical_key (chars piece))) (codes "de"))) _ (linkless links)).1 in
      let ends = and_parts (not (has_end (codes "de") (canonical_key (chars piece)))) _ parts in
      elim (link_words w h) [
        | inl de ↦ false≢true (sym (ap not (ap (has_end (codes "de")) (key ∙ ap (λ t. canonical_key (chars u) ++ t) de) ∙ has_end-append (codes "de") (canonical_key (chars u)))) ∙ ends.0)
        | inr del ↦ false≢true (sym (ap not (ap (has_end (codes "del")) (key ∙ ap (λ t. canonical_key (chars u) ++ t) del) ∙ has_end-append (codes "del") (canonical_key (chars u)))) ∙ ends.1)
      ]

  pub plain_name : IsPlainName l piece
  plain_name =
      record {
        no_digit = no_digit_from [] piece refl;
        no_front_link = λ links. false_from_ne_true _ (front_link links);
        no_back_link = λ links u w e. false_from_ne_true _ (back_link links u w e);
      }
