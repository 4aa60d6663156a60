-- A text that is a month's name has the key of a name in the table, and says one month.
use Rattle.std.proofs.Common.{◌≡◌, ℕ, true, false, not, ◌||◌, List, [], ◌∷◌, chars, sym, ap, ◌∙◌, bytes_eq, Some, inl, inr, eqb}
use Rattle.std.specs.Str.{chars}
use Rattle.std.proofs.lemmas.Bool.{and_parts, cases_Bool, cond-true, cond-false, false≢true, or_cases, eqb-true}
use Rattle.std.proofs.lemmas.Option.{same_Some}
use Rattle.caseless.specs.Caseless.{canonical_key}
use Rattle.tr4_dates.specs.declared.format.Language.{Language}
use Rattle.tr4_dates.specs.Languages.{Row, names}
use Rattle.tr4_dates.specs.Parts.{IsNameIn}
use Rattle.tr4_dates.specs.Readers.{month_in}
use Rattle.tr4_dates.proofs.KeyTests.{bytes_eq-true, bytes_eq-same, is_plain, are_plain, keyed, agrees, all_agree, names_plain, names_agree}

-- what holds of the key of each name holds of the key of a text that is a name
plain_of : (l : Language) (rows : List Row) (piece : List ℕ) (m : ℕ) → are_plain l (keyed rows) ≡ true
    → IsNameIn rows piece m → is_plain l (canonical_key (chars piece)) ≡ true
plain_of l [] piece m plain named = absurd named
plain_of l (row ∷ rows) piece m plain (inl here) =
    ap (is_plain l) here.0 ∙ (and_parts (is_plain l (canonical_key row.0)) _ plain).0
plain_of l (row ∷ rows) piece m plain (inr later) =
    plain_of l rows piece m (and_parts (is_plain l (canonical_key row.0)) _ plain).1 later

pub name_plain : (l : Language) (piece : List ℕ) (m : ℕ) → IsNameIn (names l) piece m
    → is_plain l (canonical_key (chars piece)) ≡ true
name_plain l piece m named = plain_of l (names l) piece m (names_plain l) named

-- the first row of the key has the month of each
same_month : (row : Row) (rows : List Row) (piece : List ℕ) (m : ℕ)
    → agrees (canonical_key row.0, row.1) (keyed rows) ≡ true → canonical_key (chars piece) ≡ canonical_key row.0
    → IsNameIn rows piece m → row.1 ≡ m
same_month row [] piece m agree same named = absurd named
same_month row (next ∷ rows) piece m agree same (inl here) =
    let parts = and_parts (not (bytes_eq (canonical_key row.0) (canonical_key next.0)) || eqb row.1 next.1) _ agree in
    let equal = bytes_eq-same (canonical_key row.0) (canonical_key next.0) (sym same ∙ here.0) in
    elim (or_cases (not (bytes_eq (canonical_key row.0) (canonical_key next.0))) (eqb row.1 next.1) parts.0) [
      | inl apart ↦ absurd (false≢true (sym (ap not equal) ∙ apart))
      | inr e ↦ eqb-true row.1 next.1 e ∙ here.1
    ]
same_month row (next ∷ rows) piece m agree same (inr later) =
    same_month row rows piece m (and_parts (not (bytes_eq (canonical_key row.0) (canonical_key next.0)) || eqb row.1 next.1) _ agree).1 same later

found_here : (row : Row) (rows : List Row) (piece : List ℕ) (m : ℕ)
    → agrees (canonical_key row.0, row.1) (keyed rows) ≡ true → canonical_key (chars piece) ≡ canonical_key row.0
    → IsNameIn (row ∷ rows) piece m → row.1 ≡ m
found_here row rows piece m agree same (inl here) = here.1
found_here row rows piece m agree same (inr later) = same_month row rows piece m agree same later

found_later : (row : Row) (rows : List Row) (piece : List ℕ) (m : ℕ)
    → bytes_eq (canonical_key (chars piece)) (canonical_key row.0) ≡ false → IsNameIn (row ∷ rows) piece m
    → IsNameIn rows piece m
found_later row rows piece m apart (inl here) = absurd (false≢true (sym apart ∙ bytes_eq-same _ _ here.0))
found_later row rows piece m apart (inr later) = later

found : (rows : List Row) (piece : List ℕ) (m : ℕ) → all_agree (keyed rows) ≡ true → IsNameIn rows piece m
    → month_in rows (canonical_key (chars piece)) ≡ Some m
found [] piece m agree named = absurd named
found (row ∷ rows) piece m agree named =
    let parts = and_parts (agrees (canonical_key row.0, row.1) (keyed rows)) _ agree in
    elim (cases_Bool (bytes_eq (canonical_key (chars piece)) (canonical_key row.0))) [
      | inl same ↦ cond-true _ _ _ same ∙ ap Some (found_here row rows piece m parts.0 (bytes_eq-true _ _ same) named)
      | inr apart ↦ cond-false _ _ _ apart ∙ found rows piece m parts.1 (found_later row rows piece m apart named)
    ]

pub month_found : (l : Language) (piece : List ℕ) (m : ℕ) → IsNameIn (names l) piece m
    → month_in (names l) (canonical_key (chars piece)) ≡ Some m
month_found l piece m named = found (names l) piece m (names_agree l) named

pub named_from : (rows : List Row) (piece : List ℕ) (m : ℕ) → month_in rows (canonical_key (chars piece)) ≡ Some m
    → IsNameIn rows piece m
named_from [] piece m e = absurd (cc)
named_from (row ∷ rows) piece m e =
    elim (cases_Bool (bytes_eq (canonical_key (chars piece)) (canonical_key row.0))) [
      | inl same ↦ inl (bytes_eq-true _ _ same, same_Some _ _ (sym (cond-true _ _ _ same) ∙ e))
      | inr apart ↦ inr (named_from rows piece m (sym (cond-false _ _ _ apart) ∙ e))
    ]

-- two names of one key have one month
pub one_month : (l : Language) (text : List ℕ) (m n : ℕ) → IsNameIn (names l) text m → IsNameIn (names l) text n → m ≡ n
one_month l text m n first second = same_Some _ _ (sym (month_found l text m first) ∙ month_found l text n second)
