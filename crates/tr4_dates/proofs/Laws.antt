-- Reading gives what the parts join to, and nothing where nothing is joined.
use Rattle.std.proofs.Common.{◌≡◌, ℕ, ◌≤◌, Bool, true, false, cond, not, ◌&&◌, List, [], ◌∷◌, ◌++◌, length, drop, map, bytes_eq, Option, Some, None, refl, sym, ap, subst, ◌∙◌, arith, inl, inr, ◌⊎◌, append-nil}
use Rattle.std.specs.Prelude.{option_map, option_and_then, nat_le, chars}
use Rattle.std.specs.Char.{to_ascii_lowercase}
use Rattle.std.specs.Str.{is_utf8}
use Rattle.std.proofs.Math.Seq.{drop-append_seam}
use Rattle.std.proofs.lemmas.Str.{IsUtf8-from_is_utf8, is_utf8-from_IsUtf8}
use Rattle.std.proofs.lemmas.Bool.{and_parts, and_from, and_left, cases_Bool, cond-true, cond-false, true≢false, leb-true, le-leb, or_left, or_right, or_cases}
use Rattle.std.proofs.lemmas.Option.{cond_some, same_Some}
use Rattle.caseless.specs.Caseless.{canonical_key}
use Rattle.tr4_dates.specs.declared.part.Fields.{Fields}
use Rattle.tr4_dates.specs.declared.format.Language.{Language}
use Rattle.tr4_dates.specs.declared.format.Language.TheVariants.{En, De, Fr, Es, It, Nl}
use Rattle.tr4_dates.specs.declared.part.Part.{Part}
use Rattle.tr4_dates.specs.declared.part.Part.TheVariants.{Day, Month, Year, Gap, Tail, Signs, Edge, Ordinal, Name}
use Rattle.tr4_dates.specs.Languages.{names, ordinals, has_links}
use Rattle.tr4_dates.specs.Runs.{Class, Digit, Letter, Sign, class_of, is_nil, digits, letters, others, signs, alphanumerics, all_in, begins_in, ends_in, run, after, number}
use Rattle.tr4_dates.specs.Parts.{IsIn, IsSmall, IsYear, IsName, IsSeparator, Joins, put, year_of, is_year_size, is_ordinal, is_listed, is_link_word}
use Rattle.tr4_dates.specs.Readers.{read, says, piece_at, small, is_within, when, month_of, month_in, is_number_part, is_linked, closes, separator, name_at}
use Rattle.tr4_dates.proofs.RunLemmas.{run_after, all_in-run, begins_in-after, run-append, run-whole}
use Rattle.tr4_dates.proofs.KeyTests.{bytes_eq-true}
use Rattle.tr4_dates.proofs.MonthKeys.{month_found, named_from}
use Rattle.tr4_dates.proofs.Rows.{set_of, may_be_empty, may_begin, is_apart, may_end, is_row, is_told, is_value_next, is_number_next, is_name_end}
use Rattle.tr4_dates.proofs.PlainNames.{plain_name, link_letters, letters_from_low, all_low}
use Rattle.tr4_dates.proofs.Pieces.{IsNameText, name_whole, name_parted, separator_whole, separator_is, separator_parted, closes_before, closes_before_end, behind_separator, sign_first}

apart_at : (f g : Class → Bool) (c : Class) → is_apart f g ≡ true → g c ≡ true → f c ≡ false
apart_at f g Digit apart at = grind arith
apart_at f g Letter apart at = grind arith
apart_at f g Sign apart at = grind arith

apart_from : (f g : Class → Bool) → ((c : Class) → g c ≡ true → f c ≡ false) → is_apart f g ≡ true
apart_from f g at =
    let d = at Digit in
    let e = at Letter in
    let s = at Sign in
    grind arith

apart_less : (f g h : Class → Bool) → ((c : Class) → h c ≡ true → g c ≡ true) → is_apart f g ≡ true
    → is_apart f h ≡ true
apart_less f g h less apart = apart_from f h (λ c e. apart_at f g c apart (less c e))

-- ---- the first byte of a piece

first_in : (f : Class → Bool) (piece : List ℕ) → all_in f piece ≡ true → 1 ≤ length piece → begins_in f piece ≡ true
unfolding all_in
first_in f [] all some = absurd (omega arith)
first_in f (b ∷ bs) all some = (and_parts (f (class_of b)) _ all).0

nil_low : (w : List ℕ) → is_nil w ≡ true → all_low w ≡ true
unfolding all_low
nil_low [] h = refl
nil_low (b ∷ bs) h = absurd (cc)

low_word : (w k : List ℕ) → all_low k ≡ true → bytes_eq w k ≡ true → all_low w ≡ true
low_word w k low e = ap all_low (bytes_eq-true w k e) ∙ low

unfoldable are_low : List (List ℕ) → Bool
are_low [] = true
are_low (w ∷ ws) = all_low w && are_low ws

low_listed : (w : List ℕ) (ws : List (List ℕ)) → are_low ws ≡ true → is_listed w ws ≡ true → all_low w ≡ true
unfolding are_low
low_listed w [] low h = absurd (cc)
low_listed w (k ∷ ws) low h =
    let parts = and_parts (all_low k) _ low in
    elim (or_cases (bytes_eq w k) _ h) [
      | inl e ↦ low_word w k parts.0 e
      | inr later ↦ low_listed w ws parts.1 later
    ]

ordinals_low : (l : Language) → are_low (ordinals l) ≡ true
unfolding are_low all_low
ordinals_low En = refl
ordinals_low De = refl
ordinals_low Fr = refl
ordinals_low Es = refl
ordinals_low It = refl
ordinals_low Nl = refl

low_words : (l : Language) (w : List ℕ) → is_ordinal l w ≡ true → all_low w ≡ true
low_words l w h =
    elim (or_cases (is_nil w) _ h) [
      | inl none ↦ nil_low w none
      | inr listed ↦ low_listed w (ordinals l) (ordinals_low l) listed
    ]

ordinal_letters : (l : Language) (piece : List ℕ) → is_ordinal l (map to_ascii_lowercase piece) ≡ true
    → all_in letters piece ≡ true
ordinal_letters l piece h = letters_from_low piece (low_words l _ h)

separator_first : (l : Language) (piece : List ℕ) → IsSeparator l piece → begins_in signs piece ≡ true
separator_first l piece (inl h) = first_in signs piece h.run h.some
separator_first l piece (inr h) = ap (begins_in signs) h.1.joined ∙ sign_first h.1.front _ h.1.front_signs

begins_of : (l : Language) (p : Part) (before piece behind : List ℕ) (ns : Option ℕ)
    → IsIn l p before piece behind ns → 1 ≤ length piece → begins_in (set_of p) piece ≡ true
begins_of l Day before piece behind ns i some = first_in digits piece i.2.digits some
begins_of l Month before piece behind ns i some = first_in digits piece i.2.digits some
begins_of l Year before piece behind ns i some = first_in digits piece i.2.digits some
begins_of l Gap before piece behind ns i some = first_in others piece i.2 some
begins_of l Tail before piece behind ns i some = first_in others piece i.1 some
begins_of l Signs before piece behind ns i some = separator_first l piece i.1
begins_of l Edge before piece behind ns i some = first_in signs piece i.1 some
begins_of l Ordinal before piece behind ns i some = first_in letters piece (ordinal_letters l piece i.1) some
begins_of l Name before piece behind ns i some = i.2.first

some_first : (f : Class → Bool) (piece : List ℕ) → begins_in f piece ≡ true → 1 ≤ length piece
some_first f [] h = absurd (cc)
some_first f (b ∷ bs) h = omega arith

is_year_size-some : (n : ℕ) → is_year_size n ≡ true → 1 ≤ n
is_year_size-some n h = grind arith

some_of : (l : Language) (p : Part) (before piece behind : List ℕ) (ns : Option ℕ) → IsIn l p before piece behind ns
    → may_be_empty p ≡ false → 1 ≤ length piece
some_of l Day before piece behind ns i h = i.2.some
some_of l Month before piece behind ns i h = i.2.some
some_of l Year before piece behind ns i h = is_year_size-some _ i.2.size
some_of l Gap before piece behind ns i h = i.1
some_of l Tail before piece behind ns i h = absurd (true≢false h)
some_of l Signs before piece behind ns i h = some_first signs piece (separator_first l piece i.1)
some_of l Edge before piece behind ns i h = absurd (true≢false h)
some_of l Ordinal before piece behind ns i h = absurd (true≢false h)
some_of l Name before piece behind ns i h = some_first letters piece i.2.first

-- no text that parts join begins with what they may not begin with
starts_at : (f : Class → Bool) (p : Part) (ps : List Part) (piece behind : List ℕ)
    → is_apart f (may_begin (p ∷ ps)) ≡ true → (1 ≤ length piece → begins_in (set_of p) piece ≡ true)
    → (may_be_empty p ≡ false → 1 ≤ length piece) → (is_apart f (may_begin ps) ≡ true → begins_in f behind ≡ false)
    → begins_in f (piece ++ behind) ≡ false
starts_at f p ps [] behind apart first some next =
    elim (cases_Bool (may_be_empty p)) [
      | inl empty ↦ next (apart_less f (may_begin (p ∷ ps)) (may_begin ps) (λ c e. or_right (set_of p c) _ (and_from (may_be_empty p) _ empty e)) apart)
      | inr full ↦ absurd (omega (arith, some full))
    ]
starts_at f p ps (b ∷ bs) behind apart first some next =
    apart_at f (may_begin (p ∷ ps)) (class_of b) apart (or_left (set_of p (class_of b)) _ (first (omega arith)))

starts : (f : Class → Bool) (l : Language) (ps : List Part) (before text : List ℕ) (ns : Fields)
    → Joins l ps before text ns → is_apart f (may_begin ps) ≡ true → begins_in f text ≡ false
starts f l [] before text ns j apart = ap (begins_in f) j.0
starts f l (p ∷ ps) before text ns j apart =
    ap (begins_in f) j.4
    ∙ starts_at f p ps j.0 j.1 apart (begins_of l p before j.0 j.1 j.2 j.6) (some_of l p before j.0 j.1 j.2 j.6) (starts f l ps (before ++ j.0) j.1 j.3 j.7)

-- ---- what follows a separator or a name

begins_whole : (f : Class → Bool) (xs ys : List ℕ) → begins_in f xs ≡ true → begins_in f (xs ++ ys) ≡ true
begins_whole f [] ys h = absurd (cc)
begins_whole f (x ∷ xs) ys h = h

other_class : (f g : Class → Bool) (t : List ℕ) → ((c : Class) → f c ≡ true → g c ≡ false) → begins_in f t ≡ true
    → begins_in g t ≡ false
other_class f g [] apart h = refl
other_class f g (b ∷ bs) apart h = apart (class_of b) h

digit_no_sign : (c : Class) → digits c ≡ true → signs c ≡ false
digit_no_sign Digit h = refl
digit_no_sign Letter h = absurd (cc)
digit_no_sign Sign h = absurd (cc)

digit_no_letter : (c : Class) → digits c ≡ true → letters c ≡ false
digit_no_letter Digit h = refl
digit_no_letter Letter h = absurd (cc)
digit_no_letter Sign h = absurd (cc)

letter_no_sign : (c : Class) → letters c ≡ true → signs c ≡ false
letter_no_sign Digit h = absurd (cc)
letter_no_sign Letter h = refl
letter_no_sign Sign h = absurd (cc)

sign_no_alphanumeric : (c : Class) → signs c ≡ true → alphanumerics c ≡ false
sign_no_alphanumeric Digit h = absurd (cc)
sign_no_alphanumeric Letter h = absurd (cc)
sign_no_alphanumeric Sign h = refl

sign_no_letter : (c : Class) → signs c ≡ true → letters c ≡ false
sign_no_letter Digit h = absurd (cc)
sign_no_letter Letter h = absurd (cc)
sign_no_letter Sign h = refl

no_letter_run : (t : List ℕ) → begins_in letters t ≡ false → run letters t ≡ []
unfolding run
no_letter_run [] h = refl
no_letter_run (b ∷ bs) h = cond-false _ _ _ h

record Follows (l : Language) (behind : List ℕ) : Type 0 where
  no_sign : begins_in signs behind ≡ false
  no_link : has_links l ≡ true → is_linked behind ≡ false

unlinked : (t : List ℕ) (w : List ℕ) → run letters t ≡ w → is_link_word w ≡ false → is_linked t ≡ false
unlinked t w e no_word = and_left (is_link_word (run letters t)) _ (ap is_link_word e ∙ no_word)

after_number : (l : Language) (piece behind : List ℕ) → begins_in digits piece ≡ true → Follows l (piece ++ behind)
after_number l piece behind first =
    let at = begins_whole digits piece behind first in
    record {
      no_sign = other_class digits signs (piece ++ behind) digit_no_sign at;
      no_link =
          λ links. unlinked (piece ++ behind) [] (no_letter_run (piece ++ behind) (other_class digits letters (piece ++ behind) digit_no_letter at)) refl;
    }

record Closes (l : Language) (behind : List ℕ) : Type 0 where
  no_letter : begins_in letters behind ≡ false
  close : closes l behind ≡ true

number_first : (l : Language) (p : Part) (before piece behind : List ℕ) (ns : Option ℕ) → is_number_part p ≡ true
    → IsIn l p before piece behind ns → begins_in digits piece ≡ true
number_first l Day before piece behind ns h i = first_in digits piece i.2.digits i.2.some
number_first l Month before piece behind ns h i = first_in digits piece i.2.digits i.2.some
number_first l Year before piece behind ns h i = first_in digits piece i.2.digits (is_year_size-some _ i.2.size)
number_first l Gap before piece behind ns h i = absurd (cc)
number_first l Tail before piece behind ns h i = absurd (cc)
number_first l Signs before piece behind ns h i = absurd (cc)
number_first l Edge before piece behind ns h i = absurd (cc)
number_first l Ordinal before piece behind ns h i = absurd (cc)
number_first l Name before piece behind ns h i = absurd (cc)

number_next : (l : Language) (ps : List Part) (before behind : List ℕ) (ns : Fields) → is_number_next ps ≡ true
    → Joins l ps before behind ns → Follows l behind × (begins_in letters behind ≡ false)
number_next l [] before behind ns next j = absurd (cc)
number_next l (p ∷ ps) before behind ns next j =
    let first : begins_in digits j.0 ≡ true = number_first l p before j.0 j.1 j.2 next j.6 in
    subst (λ t. Follows l t × (begins_in letters t ≡ false)) (sym j.4)
    (after_number l j.0 j.1 first, other_class digits letters (j.0 ++ j.1) digit_no_letter (begins_whole digits j.0 j.1 first))

edge_first : (t : List ℕ) → all_in signs t ≡ true → begins_in letters t ≡ false
unfolding all_in
edge_first [] all = refl
edge_first (b ∷ bs) all = sign_no_letter (class_of b) (and_parts (signs (class_of b)) _ all).0

name_end : (l : Language) (ps : List Part) (before behind : List ℕ) (ns : Fields) → is_name_end ps ≡ true
    → Joins l ps before behind ns → Closes l behind
name_end l [] before behind ns next j = absurd (cc)
name_end l (Day ∷ ps) before behind ns next j = absurd (cc)
name_end l (Month ∷ ps) before behind ns next j = absurd (cc)
name_end l (Year ∷ ps) before behind ns next j = absurd (cc)
name_end l (Gap ∷ ps) before behind ns next j = absurd (cc)
name_end l (Tail ∷ ps) before behind ns next j = absurd (cc)
name_end l (Ordinal ∷ ps) before behind ns next j = absurd (cc)
name_end l (Name ∷ ps) before behind ns next j = absurd (cc)
name_end l (Edge ∷ (p ∷ ps)) before behind ns next j = absurd (cc)
name_end l (Edge ∷ []) before behind ns next j =
    let whole : behind ≡ j.0 = j.4 ∙ ap (λ t. j.0 ++ t) j.7.0 ∙ append-nil j.0 in
    let all : all_in signs behind ≡ true = ap (all_in signs) whole ∙ j.6.1 in
    record { no_letter = edge_first behind all; close = closes_before_end l behind all }
name_end l (Signs ∷ ps) before behind ns next j =
    let later = number_next l ps (before ++ j.0) j.1 j.3 next j.7 in
    let first = begins_whole signs j.0 j.1 (separator_first l j.0 j.6.1) in
    subst (Closes l) (sym j.4) (record {
      no_letter = other_class signs letters (j.0 ++ j.1) sign_no_letter first;
      close =
          closes_before l j.0 j.1 j.6.1 later.0.no_sign later.0.no_link later.1 (other_class signs alphanumerics (j.0 ++ j.1) sign_no_alphanumeric first);
    })

value_next : (l : Language) (ps : List Part) (b : Bool) (before behind : List ℕ) (ns : Fields)
    → is_value_next ps ≡ true → is_row b ps ≡ true → Joins l ps before behind ns → Follows l behind
value_next l [] b before behind ns next row j = absurd (cc)
value_next l (Day ∷ ps) b before behind ns next row j = (number_next l (Day ∷ ps) before behind ns refl j).0
value_next l (Month ∷ ps) b before behind ns next row j = (number_next l (Month ∷ ps) before behind ns refl j).0
value_next l (Year ∷ ps) b before behind ns next row j = (number_next l (Year ∷ ps) before behind ns refl j).0
value_next l (Gap ∷ ps) b before behind ns next row j = absurd (cc)
value_next l (Tail ∷ ps) b before behind ns next row j = absurd (cc)
value_next l (Signs ∷ ps) b before behind ns next row j = absurd (cc)
value_next l (Edge ∷ ps) b before behind ns next row j = absurd (cc)
value_next l (Ordinal ∷ ps) b before behind ns next row j = absurd (cc)
value_next l (Name ∷ ps) b before behind ns next row j =
    let told = (and_parts (is_name_end ps) _ (and_parts (not (is_number_part Name && b)) _ row).1).0 in
    let later = name_end l ps (before ++ j.0) j.1 j.3 told j.7 in
    let plain = plain_name l j.0 j.6.0 j.6.2 in
    subst (Follows l) (sym j.4) (record {
      no_sign = other_class letters signs (j.0 ++ j.1) letter_no_sign (begins_whole letters j.0 j.1 j.6.2.first);
      no_link =
          λ links. unlinked (j.0 ++ j.1) (run letters j.0) (run-append letters j.0 j.1 later.no_letter) (plain.no_front_link links);
    })

name_text : (l : Language) (piece : List ℕ) (m : ℕ) → IsName l piece m → IsNameText l piece
name_text l piece m name =
    let plain = plain_name l piece m name in
    record { no_digit = plain.no_digit; last = name.last; no_back_link = plain.no_back_link }

-- ---- complete

piece_again : (l : Language) (p : Part) (ps : List Part) (b : Bool) (before piece behind : List ℕ) (own : Option ℕ) (more : Fields)
    → is_told p ps ≡ true → is_row b ps ≡ true → IsIn l p before piece behind own
    → Joins l ps (before ++ piece) behind more → piece_at l p (piece ++ behind) ≡ piece
unfolding piece_at
piece_again l Day ps b before piece behind own more told row i j = run-whole digits piece behind i.2.digits i.3.back
piece_again l Month ps b before piece behind own more told row i j = run-whole digits piece behind i.2.digits i.3.back
piece_again l Year ps b before piece behind own more told row i j = run-whole digits piece behind i.2.digits i.3.back
piece_again l Gap ps b before piece behind own more told row i j =
    run-whole others piece behind i.2 (starts others l ps _ behind more j told)
piece_again l Tail ps b before piece behind own more told row i j =
    run-whole others piece behind i.1 (starts others l ps _ behind more j told)
piece_again l Edge ps b before piece behind own more told row i j =
    run-whole signs piece behind i.1 (starts signs l ps _ behind more j told)
piece_again l Ordinal ps b before piece behind own more told row i j =
    run-whole letters piece behind (ordinal_letters l piece i.1) (starts letters l ps _ behind more j told)
piece_again l Signs ps b before piece behind own more told row i j =
    let f = value_next l ps b _ behind more told row j in
    separator_whole l piece behind i.1 f.no_sign f.no_link
piece_again l Name ps b before piece behind own more told row i j =
    let c = name_end l ps _ behind more told j in
    name_whole l piece behind (name_text l piece i.0 i.2) c.no_letter c.close

small_says : (limit : ℕ) (piece : List ℕ) (n : ℕ) → IsSmall limit piece n → small limit piece ≡ Some (Some n)
small_says limit piece n s =
    let low : 1 ≤ number piece = subst (λ x. 1 ≤ x) s.value s.low in
    let high : number piece ≤ limit = subst (λ x. x ≤ limit) s.value s.high in
    let size = and_from (nat_le 1 (length piece)) (nat_le (length piece) 2) (le-leb _ _ s.some) (le-leb _ _ s.short) in
    let value = and_from (nat_le 1 (number piece)) (nat_le (number piece) limit) (le-leb _ _ low) (le-leb _ _ high) in
    cond-true _ _ _ (and_from (nat_le 1 (length piece) && nat_le (length piece) 2) _ size value)
    ∙ ap (λ x. Some (Some x)) (sym s.value)

year_says : (piece : List ℕ) (n : ℕ) → IsYear piece n
    → when (is_year_size (length piece) && nat_le 1 (year_of piece)) (Some (year_of piece)) ≡ Some (Some n)
year_says piece n s =
    let low : 1 ≤ year_of piece = subst (λ x. 1 ≤ x) s.value s.low in
    cond-true _ _ _ (and_from (is_year_size (length piece)) _ s.size (le-leb _ _ low))
    ∙ ap (λ x. Some (Some x)) (sym s.value)

says_of : (l : Language) (p : Part) (before piece behind : List ℕ) (ns : Option ℕ) → IsIn l p before piece behind ns
    → says l p piece ≡ Some ns
unfolding says
says_of l Day before piece behind ns i = small_says 31 piece i.0 i.2 ∙ ap Some (sym i.1)
says_of l Month before piece behind ns i = small_says 12 piece i.0 i.2 ∙ ap Some (sym i.1)
says_of l Year before piece behind ns i = year_says piece i.0 i.2 ∙ ap Some (sym i.1)
says_of l Gap before piece behind ns i = cond-true _ _ _ (le-leb _ _ i.1) ∙ ap Some (sym i.0)
says_of l Tail before piece behind ns i = ap Some (sym i.0)
says_of l Signs before piece behind ns i = cond-true _ _ _ (separator_first l piece i.1) ∙ ap Some (sym i.0)
says_of l Edge before piece behind ns i = ap Some (sym i.0)
says_of l Ordinal before piece behind ns i = cond-true _ _ _ i.1 ∙ ap Some (sym i.0)
says_of l Name before piece behind ns i =
    let name = i.2 in
    cond-true _ _ _ (and_from (is_utf8 piece) _ (is_utf8-from_IsUtf8 piece name.text) (and_from (begins_in letters piece) _ name.first name.last))
    ∙ ap (option_map (λ m. Some m)) (month_found l piece i.0 name.named) ∙ ap Some (sym i.1)

read_step : (l : Language) (p : Part) (ps : List Part) (piece behind : List ℕ) (own : Option ℕ) (more : Fields)
    → piece_at l p (piece ++ behind) ≡ piece → says l p piece ≡ Some own → read l ps behind ≡ Some more
    → read l (p ∷ ps) (piece ++ behind) ≡ Some (put p own more)
unfolding read
read_step l p ps piece behind own more same said next =
    let rest : drop (length (piece_at l p (piece ++ behind))) (piece ++ behind) ≡ behind =
    ap (λ t. drop (length t) (piece ++ behind)) same ∙ drop-append_seam piece behind in
    rw (rest, same, said, next) refl

-- what parts join is read, and so a text says one list of numbers at most
pub complete : (l : Language) (ps : List Part) (b : Bool) (before text : List ℕ) (ns : Fields) → is_row b ps ≡ true
    → Joins l ps before text ns → read l ps text ≡ Some ns
unfolding read
complete l [] b before text ns row j = rw (j.0, j.1) refl
complete l (p ∷ ps) b before text ns row j =
    let parts = and_parts (not (is_number_part p && b)) _ row in
    let later = and_parts (is_told p ps) _ parts.1 in
    let piece = piece_again l p ps (may_end b p) before j.0 j.1 j.2 j.3 later.0 later.1 j.6 j.7 in
    let said = says_of l p before j.0 j.1 j.2 j.6 in
    let next = complete l ps (may_end b p) (before ++ j.0) j.1 j.3 later.1 j.7 in
    ap (read l (p ∷ ps)) j.4 ∙ read_step l p ps j.0 j.1 j.2 j.3 piece said next ∙ ap Some (sym j.5)

-- ---- sound

ends_none : (f g : Class → Bool) (ys : List ℕ) → ((c : Class) → g c ≡ true → f c ≡ false) → all_in g ys ≡ true
    → ends_in f ys ≡ false
unfolding ends_in all_in
ends_none f g [] apart all = refl
ends_none f g (b ∷ []) apart all = apart (class_of b) (and_parts (g (class_of b)) _ all).0
ends_none f g (b ∷ c ∷ bs) apart all = ends_none f g (c ∷ bs) apart (and_parts (g (class_of b)) _ all).1

ends_in-append : (f g : Class → Bool) (xs ys : List ℕ) → ((c : Class) → g c ≡ true → f c ≡ false)
    → all_in g ys ≡ true → (ends_in f xs ≡ false) ⊎ (1 ≤ length ys) → ends_in f (xs ++ ys) ≡ false
unfolding ends_in
ends_in-append f g [] ys apart all some = ends_none f g ys apart all
ends_in-append f g (x ∷ []) [] apart all (inl no_x) = no_x
ends_in-append f g (x ∷ []) [] apart all (inr some) = absurd (omega arith)
ends_in-append f g (x ∷ []) (y ∷ ys) apart all some = ends_none f g (y ∷ ys) apart all
ends_in-append f g (x ∷ z ∷ xs) ys apart all some = ends_in-append f g (z ∷ xs) ys apart all some

pub drop-run : (set : Class → Bool) (t : List ℕ) → drop (length (run set t)) t ≡ after set t
drop-run set t = ap (drop (length (run set t))) (run_after set t) ∙ drop-append_seam (run set t) (after set t)

stops : (set : Class → Bool) (t : List ℕ) → begins_in set (drop (length (run set t)) t) ≡ false
stops set t = ap (begins_in set) (drop-run set t) ∙ begins_in-after set t

front_of : (text piece rest : List ℕ) → text ≡ piece ++ rest → text ≡ piece ++ drop (length piece) text
front_of text piece rest e = e ∙ ap (λ t. piece ++ t) (sym (ap (drop (length piece)) e ∙ drop-append_seam piece rest))

pub piece_parted : (l : Language) (p : Part) (text : List ℕ)
    → text ≡ piece_at l p text ++ drop (length (piece_at l p text)) text
unfolding piece_at
piece_parted l Day text = front_of text (run digits text) (after digits text) (run_after digits text)
piece_parted l Month text = front_of text (run digits text) (after digits text) (run_after digits text)
piece_parted l Year text = front_of text (run digits text) (after digits text) (run_after digits text)
piece_parted l Gap text = front_of text (run others text) (after others text) (run_after others text)
piece_parted l Tail text = front_of text (run others text) (after others text) (run_after others text)
piece_parted l Signs text = front_of text (separator l text) (behind_separator l text) (separator_parted l text)
piece_parted l Edge text = front_of text (run signs text) (after signs text) (run_after signs text)
piece_parted l Ordinal text = front_of text (run letters text) (after letters text) (run_after letters text)
piece_parted l Name text = name_parted l text

small_from : (limit : ℕ) (piece : List ℕ) (own : Option ℕ) → all_in digits piece ≡ true
    → small limit piece ≡ Some own → (n : ℕ) × (own ≡ Some n) × IsSmall limit piece n
small_from limit piece own all said =
    let c =
    cond_some (is_within 1 2 (length piece) && is_within 1 limit (number piece)) (Some (number piece)) own said in
    let parts = and_parts (nat_le 1 (length piece) && nat_le (length piece) 2) _ c.0 in
    let size = and_parts (nat_le 1 (length piece)) _ parts.0 in
    let value = and_parts (nat_le 1 (number piece)) _ parts.1 in (
      number piece,
      sym c.1,
      record {
        digits = all;
        some = leb-true _ _ size.0;
        short = leb-true _ _ size.1;
        value = refl;
        low = leb-true _ _ value.0;
        high = leb-true _ _ value.1;
      },
    )

year_from : (piece : List ℕ) (own : Option ℕ) → all_in digits piece ≡ true
    → when (is_year_size (length piece) && nat_le 1 (year_of piece)) (Some (year_of piece)) ≡ Some own
    → (n : ℕ) × (own ≡ Some n) × IsYear piece n
year_from piece own all said =
    let c = cond_some (is_year_size (length piece) && nat_le 1 (year_of piece)) (Some (year_of piece)) own said in
    let parts = and_parts (is_year_size (length piece)) _ c.0 in
    (year_of piece, sym c.1, record { digits = all; size = parts.0; value = refl; low = leb-true _ _ parts.1 })

mapped : {A B : Type 0} (f : A → B) (o : Option A) (y : B) → option_map f o ≡ Some y
    → (x : A) × (o ≡ Some x) × (f x ≡ y)
mapped f None y e = absurd (cc)
mapped f (Some x) y e = (x, refl, cc)

chained : {A B : Type 0} (f : A → Option B) (o : Option A) (y : B) → option_and_then f o ≡ Some y
    → (x : A) × (o ≡ Some x) × (f x ≡ Some y)
chained f None y e = absurd (cc)
chained f (Some x) y e = (x, refl, e)

none_some : (own : Option ℕ) → None ≡ Some own → ⊥
none_some own e = cc

name_from : (l : Language) (piece : List ℕ) (own : Option ℕ) → month_of l piece ≡ Some own
    → (n : ℕ) × (own ≡ Some n) × IsName l piece n
name_from l piece own said =
    elim (cases_Bool (is_utf8 piece && (begins_in letters piece && ends_in letters piece))) [
      | inr bad ↦ absurd (none_some own (sym (cond-false _ _ _ bad) ∙ said))
      | inl good ↦
          let parts = and_parts (is_utf8 piece) _ good in
          let ends = and_parts (begins_in letters piece) _ parts.1 in
          let m =
          mapped (λ m. Some m) (month_in (names l) (canonical_key (chars piece))) own (sym (cond-true _ _ _ good) ∙ said) in (
            m.0,
            sym m.2,
            record {
              text = IsUtf8-from_is_utf8 piece parts.0;
              first = ends.0;
              last = ends.1;
              named = named_from (names l) piece m.0 m.1;
            },
          )
    ]

-- a separator begins with a sign only where the text does
first_sign : (l : Language) (text : List ℕ) → begins_in signs (separator l text) ≡ true → begins_in signs text ≡ true
first_sign l text h =
    ap (begins_in signs) (separator_parted l text)
    ∙ begins_whole signs (separator l text) (behind_separator l text) h

in_from : (l : Language) (p : Part) (before text : List ℕ) (own : Option ℕ)
    → says l p (piece_at l p text) ≡ Some own → (is_number_part p ≡ true → ends_in digits before ≡ false)
    → IsIn l p before (piece_at l p text) (drop (length (piece_at l p text)) text) own
unfolding piece_at says
in_from l Day before text own said front =
    let s = small_from 31 (run digits text) own (all_in-run digits text) said in
    (s.0, s.1, s.2, record { front = front refl; back = stops digits text })
in_from l Month before text own said front =
    let s = small_from 12 (run digits text) own (all_in-run digits text) said in
    (s.0, s.1, s.2, record { front = front refl; back = stops digits text })
in_from l Year before text own said front =
    let s = year_from (run digits text) own (all_in-run digits text) said in
    (s.0, s.1, s.2, record { front = front refl; back = stops digits text })
in_from l Gap before text own said front =
    let c = cond_some (nat_le 1 (length (run others text))) None own said in
    (sym c.1, leb-true _ _ c.0, all_in-run others text)
in_from l Tail before text own said front = (sym (same_Some _ _ said), all_in-run others text)
in_from l Signs before text own said front =
    let c = cond_some (begins_in signs (separator l text)) None own said in
    (sym c.1, separator_is l text (first_sign l text c.0))
in_from l Edge before text own said front = (sym (same_Some _ _ said), all_in-run signs text)
in_from l Ordinal before text own said front =
    let c = cond_some (is_ordinal l (map to_ascii_lowercase (run letters text))) None own said in
    (sym c.1, c.0)
in_from l Name before text own said front = name_from l (name_at l text) own said

-- ---- no piece but a number's has a digit

all_append : (f : Class → Bool) (xs ys : List ℕ) → all_in f xs ≡ true → all_in f ys ≡ true → all_in f (xs ++ ys) ≡ true
unfolding all_in
all_append f [] ys a b = b
all_append f (x ∷ xs) ys a b =
    let parts = and_parts (f (class_of x)) _ a in
    and_from (f (class_of x)) _ parts.0 (all_append f xs ys parts.1 b)

all_wider : (f g : Class → Bool) (xs : List ℕ) → ((c : Class) → f c ≡ true → g c ≡ true) → all_in f xs ≡ true
    → all_in g xs ≡ true
unfolding all_in
all_wider f g [] wider a = refl
all_wider f g (x ∷ xs) wider a =
    let parts = and_parts (f (class_of x)) _ a in
    and_from (g (class_of x)) _ (wider (class_of x) parts.0) (all_wider f g xs wider parts.1)

sign_other : (c : Class) → signs c ≡ true → others c ≡ true
sign_other Digit h = absurd (cc)
sign_other Letter h = refl
sign_other Sign h = refl

letter_other : (c : Class) → letters c ≡ true → others c ≡ true
letter_other Digit h = absurd (cc)
letter_other Letter h = refl
letter_other Sign h = refl

other_no_digit : (c : Class) → others c ≡ true → digits c ≡ false
other_no_digit Digit h = absurd (cc)
other_no_digit Letter h = refl
other_no_digit Sign h = refl

separator_other : (l : Language) (piece : List ℕ) → IsSeparator l piece → all_in others piece ≡ true
separator_other l piece (inl h) = all_wider signs others piece sign_other h.run
separator_other l piece (inr h) =
    let linked = h.1 in
    let front = all_wider signs others linked.front sign_other linked.front_signs.run in
    let link = all_wider letters others linked.link letter_other (link_letters linked.link linked.is_de) in
    let back = all_wider signs others linked.back sign_other linked.back_signs.run in
    ap (all_in others) linked.joined
    ∙ all_append others linked.front (linked.link ++ linked.back) front (all_append others linked.link linked.back link back)

no_digit_of : (l : Language) (p : Part) (before piece behind : List ℕ) (ns : Option ℕ) → is_number_part p ≡ false
    → IsIn l p before piece behind ns → all_in others piece ≡ true
no_digit_of l Day before piece behind ns h i = absurd (true≢false h)
no_digit_of l Month before piece behind ns h i = absurd (true≢false h)
no_digit_of l Year before piece behind ns h i = absurd (true≢false h)
no_digit_of l Gap before piece behind ns h i = i.2
no_digit_of l Tail before piece behind ns h i = i.1
no_digit_of l Signs before piece behind ns h i = separator_other l piece i.1
no_digit_of l Edge before piece behind ns h i = all_wider signs others piece sign_other i.1
no_digit_of l Ordinal before piece behind ns h i = all_wider letters others piece letter_other (ordinal_letters l piece i.1)
no_digit_of l Name before piece behind ns h i = (plain_name l piece i.0 i.2).no_digit

next_front : (l : Language) (b : Bool) (p : Part) (before piece behind : List ℕ) (ns : Option ℕ)
    → IsIn l p before piece behind ns → (b ≡ false → ends_in digits before ≡ false) → may_end b p ≡ false
    → ends_in digits (before ++ piece) ≡ false
next_front l b p before piece behind ns i front no_end =
    elim (cases_Bool (is_number_part p)) [
      | inl yes_n ↦ absurd (true≢false (sym (cond-true (is_number_part p) true _ yes_n) ∙ no_end))
      | inr no_n ↦
          let rest = sym (cond-false (is_number_part p) true (cond (may_be_empty p) b false) no_n) ∙ no_end in
          let all = no_digit_of l p before piece behind ns no_n i in
          elim (cases_Bool (may_be_empty p)) [
            | inl empty ↦ ends_in-append digits others before piece other_no_digit all (inl (front (sym (cond-true (may_be_empty p) b false empty) ∙ rest)))
            | inr full ↦ ends_in-append digits others before piece other_no_digit all (inr (some_of l p before piece behind ns i full))
          ]
    ]

-- a digit stands before a number in no row
is_open : (p : Part) (b : Bool) → not (is_number_part p && b) ≡ true → is_number_part p ≡ true → b ≡ false
is_open p b h n = grind arith

pub sound : (l : Language) (ps : List Part) (b : Bool) (before text : List ℕ) (ns : Fields) → is_row b ps ≡ true
    → (b ≡ false → ends_in digits before ≡ false) → read l ps text ≡ Some ns → Joins l ps before text ns
unfolding read
sound l [] b before [] ns row front r = (refl, cc)
sound l [] b before (c ∷ cs) ns row front r = absurd (cc)
sound l (p ∷ ps) b before text ns row front r =
    let parts = and_parts (not (is_number_part p && b)) _ row in
    let later = and_parts (is_told p ps) _ parts.1 in
    let piece = piece_at l p text in
    let behind = drop (length piece) text in
    let said = chained (λ own. option_map (λ more. put p own more) (read l ps behind)) (says l p piece) ns r in
    let next = mapped (λ more. put p said.0 more) (read l ps behind) ns said.2 in
    let here = in_from l p before text said.0 said.1 (λ n. front (is_open p b parts.0 n)) in (
      piece,
      behind,
      said.0,
      next.0,
      piece_parted l p text,
      sym next.2,
      here,
      sound l ps (may_end b p) (before ++ piece) behind next.0 later.1 (next_front l b p before piece behind said.0 here front) next.1,
    )
