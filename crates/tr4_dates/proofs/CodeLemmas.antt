-- A run, a step further.
use Rattle.std.proofs.Common.{◌≡◌, ℕ, suc, ◌<◌, ◌≤◌, ◌+◌, ◌-◌, Bool, true, false, cond, List, [], ◌∷◌, ◌++◌, length, length-append, map, ◌==◌, take, drop, get_or, chars, bytes_eq, IsUtf8, option_map, ◌&&◌, Option, Some, None, refl, sym, ap, ◌∙◌, arith, add-one, drop-cons}
use Rattle.std.proofs.lemmas.Bool.{cond-true, cond-false, ne_eqb, false_from_ne_true, and_left}
use Rattle.std.proofs.lemmas.Str.{IsUtf8-from_is_utf8, is_utf8-from_IsUtf8}
use Rattle.std.specs.Borrow.{Bor}
use Rattle.std.specs.Str.{is_utf8}
use Rattle.caseless.specs.Caseless.{canonical_key}
use Rattle.tr4_dates.specs.Code.{rows_of}
use Rattle.tr4_dates.specs.Languages.{names, has_links}
use Rattle.tr4_dates.proofs.KeyTests.{bytes_eq-true, bytes_eq-same}
use Rattle.std.proofs.lemmas.List.{drop_all}
use Rattle.tr4_dates.specs.declared.part.Fields.{Fields}
use Rattle.tr4_dates.specs.declared.format.Language.{Language}
use Rattle.tr4_dates.specs.declared.part.Part.{Part}
use Rattle.tr4_dates.specs.Parts.{nothing, put}
use Rattle.tr4_dates.specs.Readers.{read, says, piece_at, separator, is_linked, closes, name_at, is_number_part, month_in, month_of}
use Rattle.tr4_dates.specs.declared.part.Part.TheVariants.{Day, Month, Year, Gap, Tail, Signs, Edge, Ordinal, Name}
use Rattle.tr4_dates.proofs.Pieces.{separator_parted}
use Rattle.tr4_dates.proofs.RunLemmas.{run_after, all_in-run}
use Rattle.tr4_dates.proofs.Laws.{piece_parted, drop-run}
use Rattle.tr4_dates.specs.Runs.{Class, class_of, begins_in, ends_in, is_nil, digits, signs, letters, all_in, run, after}

run_nil : (set : Class → Bool) → length (run set []) ≡ 0
unfolding run
run_nil set = refl

run_cons : (set : Class → Bool) (b : ℕ) (bs : List ℕ) → run set (b ∷ bs) ≡ cond (set (class_of b)) (b ∷ run set bs) []
unfolding run
run_cons set b bs = refl

pub run_more : (set : Class → Bool) (t : List ℕ) (i : ℕ) → i < length t → set (class_of (get_or t i 0)) ≡ true
    → length (run set (drop i t)) ≡ length (run set (drop (i + 1) t)) + 1
run_more set t i within here =
    let e = ap (run set) (drop-cons t i 0 within) ∙ run_cons set _ _ ∙ cond-true _ _ _ here in
    let f = ap length e in
    rw (add-one i) (f ∙ sym (add-one _))

pub run_ended : (set : Class → Bool) (t : List ℕ) (i : ℕ) → i < length t → set (class_of (get_or t i 0)) ≡ false
    → length (run set (drop i t)) ≡ 0
run_ended set t i within here = ap length (ap (run set) (drop-cons t i 0 within) ∙ run_cons set _ _ ∙ cond-false _ _ _ here)

pub run_done : (set : Class → Bool) (t : List ℕ) (i : ℕ) → length t ≤ i → length (run set (drop i t)) ≡ 0
run_done set t i past = ap (λ l. length (run set l)) (drop_all i t past) ∙ run_nil set

-- ---- a piece at the front of a text

take-seam : (xs ys : List ℕ) → take (length xs) (xs ++ ys) ≡ xs
take-seam [] ys = refl
take-seam (x ∷ xs) ys = ap (λ l. x ∷ l) (take-seam xs ys)

pub front_fits : (text piece rest : List ℕ) → text ≡ piece ++ rest → length piece ≤ length text
front_fits text piece rest e = omega (arith, ap length e, length-append piece rest)

pub front_taken : (text piece rest : List ℕ) → text ≡ piece ++ rest → take (length piece) text ≡ piece
front_taken text piece rest e = ap (take (length piece)) e ∙ take-seam piece rest

pub piece_fits : (l : Language) (p : Part) (text : List ℕ) → length (piece_at l p text) ≤ length text
piece_fits l p text = front_fits text _ _ (piece_parted l p text)

pub piece_taken : (l : Language) (p : Part) (text : List ℕ) → take (length (piece_at l p text)) text ≡ piece_at l p text
piece_taken l p text = front_taken text _ _ (piece_parted l p text)

pub run_fits : (set : Class → Bool) (text : List ℕ) → length (run set text) ≤ length text
run_fits set text = front_fits text _ _ (run_after set text)

pub run_taken : (set : Class → Bool) (text : List ℕ) → take (length (run set text)) text ≡ run set text
run_taken set text = front_taken text _ _ (run_after set text)

-- ---- reading, case by case

pub read_nil : (l : Language) (parts : List Part) (text : List ℕ) → length parts ≡ 0 → length text ≡ 0
    → read l parts text ≡ Some nothing
unfolding read
read_nil l [] [] e h = refl
read_nil l (p ∷ ps) text e h = absurd (omega arith)
read_nil l [] (b ∷ bs) e h = absurd (omega arith)

pub read_more : (l : Language) (parts : List Part) (text : List ℕ) → length parts ≡ 0 → 1 ≤ length text
    → read l parts text ≡ None
unfolding read
read_more l [] [] e h = absurd (omega arith)
read_more l (p ∷ ps) text e h = absurd (omega arith)
read_more l [] (b ∷ bs) e h = refl

pub read_refused : (l : Language) (parts : List Part) (p : Part) (ps : List Part) (text : List ℕ) → parts ≡ p ∷ ps
    → says l p (piece_at l p text) ≡ None → read l parts text ≡ None
unfolding read
read_refused l parts p ps text e h = rw (e, h) refl

pub read_lost : (l : Language) (parts : List Part) (p : Part) (ps : List Part) (text : List ℕ) (own : Option ℕ)
    → parts ≡ p ∷ ps → says l p (piece_at l p text) ≡ Some own
    → read l ps (drop (length (piece_at l p text)) text) ≡ None → read l parts text ≡ None
unfolding read
read_lost l parts p ps text own e h k = rw (e, h, k) refl

pub read_found : (l : Language) (parts : List Part) (p : Part) (ps : List Part) (text : List ℕ) (own : Option ℕ) (more : Fields)
    → parts ≡ p ∷ ps → says l p (piece_at l p text) ≡ Some own
    → read l ps (drop (length (piece_at l p text)) text) ≡ Some more → read l parts text ≡ Some (put p own more)
unfolding read
read_found l parts p ps text own more e h k = rw (e, h, k) refl

-- ---- the length of a separator

pub separator_linked : (l : Language) (text : List ℕ) → (has_links l && is_linked (after signs text)) ≡ true
    → length (separator l text) ≡ length (run signs text) + (length (run letters (after signs text)) + length (run signs (after letters (after signs text))))
unfolding separator
separator_linked l text h =
    let parts = length-append (run letters (after signs text)) (run signs (after letters (after signs text))) in
    ap length (cond-true _ _ _ h) ∙ length-append (run signs text) _ ∙ ap (λ n. length (run signs text) + n) parts

pub separator_plain : (l : Language) (text : List ℕ) → (has_links l && is_linked (after signs text)) ≡ false
    → length (separator l text) ≡ length (run signs text)
unfolding separator
separator_plain l text h = ap length (cond-false _ _ _ h)

pub run_dropped : (set : Class → Bool) (text : List ℕ) → drop (length (run set text)) text ≡ after set text
run_dropped set text = drop-run set text

pub separator_fits : (l : Language) (text : List ℕ) → length (separator l text) ≤ length text
separator_fits l text = front_fits text _ _ (separator_parted l text)

-- ---- a name, a step further

name_cons : (l : Language) (b : ℕ) (bs : List ℕ)
    → name_at l (b ∷ bs) ≡ cond (letters (class_of b) && closes l bs) (b ∷ []) (b ∷ name_at l bs)
unfolding name_at
name_cons l b bs = refl

name_nil : (l : Language) → length (name_at l []) ≡ 0
unfolding name_at
name_nil l = refl

name_split : (l : Language) (t : List ℕ) (i : ℕ) → i < length t
    → name_at l (drop i t) ≡ cond (letters (class_of (get_or t i 0)) && closes l (drop (i + 1) t)) (get_or t i 0 ∷ []) (get_or t i 0 ∷ name_at l (drop (i + 1) t))
name_split l t i within = rw (add-one i) (ap (name_at l) (drop-cons t i 0 within) ∙ name_cons l _ _)

pub name_closed : (l : Language) (t : List ℕ) (i : ℕ) → i < length t
    → (letters (class_of (get_or t i 0)) && closes l (drop (i + 1) t)) ≡ true → length (name_at l (drop i t)) ≡ 1
name_closed l t i within h = ap length (name_split l t i within ∙ cond-true _ _ _ h)

pub name_more : (l : Language) (t : List ℕ) (i : ℕ) → i < length t
    → (letters (class_of (get_or t i 0)) && closes l (drop (i + 1) t)) ≡ false
    → length (name_at l (drop i t)) ≡ length (name_at l (drop (i + 1) t)) + 1
name_more l t i within h = ap length (name_split l t i within ∙ cond-false _ _ _ h) ∙ sym (add-one _)

pub name_done : (l : Language) (t : List ℕ) (i : ℕ) → length t ≤ i → length (name_at l (drop i t)) ≡ 0
name_done l t i past = ap (λ x. length (name_at l x)) (drop_all i t past) ∙ name_nil l

pub piece_digits : (l : Language) (p : Part) (text : List ℕ) → is_number_part p ≡ true
    → all_in digits (piece_at l p text) ≡ true
unfolding piece_at
piece_digits l Day text h = all_in-run digits text
piece_digits l Month text h = all_in-run digits text
piece_digits l Year text h = all_in-run digits text
piece_digits l Gap text h = absurd (cc)
piece_digits l Tail text h = absurd (cc)
piece_digits l Signs text h = absurd (cc)
piece_digits l Edge text h = absurd (cc)
piece_digits l Ordinal text h = absurd (cc)
piece_digits l Name text h = absurd (cc)

pub is_nil_map : (f : ℕ → ℕ) (w : List ℕ) → is_nil (map f w) ≡ (length w == 0)
is_nil_map f [] = refl
is_nil_map f (b ∷ bs) = sym (ne_eqb (length (b ∷ bs)) 0 (λ e. omega arith))

pub ends_none : (set : Class → Bool) (t : List ℕ) → length t ≡ 0 → ends_in set t ≡ false
unfolding ends_in
ends_none set [] h = refl
ends_none set (b ∷ bs) h = absurd (omega arith)

pub ends_at : (set : Class → Bool) (t : List ℕ)
    → (1 ≤ length t → ends_in set t ≡ set (class_of (get_or t (length t - 1) 0))) × (length t ≡ 0 → ends_in set t ≡ false)
unfolding ends_in
ends_at set [] = (λ h. absurd (omega arith), λ h. refl)
ends_at set (b ∷ []) = (λ h. refl, λ h. absurd (omega arith))
ends_at set (b ∷ c ∷ bs) =
    let rest : ends_in set (c ∷ bs) ≡ set (class_of (get_or (c ∷ bs) (length (c ∷ bs) - 1) 0)) =
    (ends_at set (c ∷ bs)).0 (omega arith) in
    let index : length (b ∷ c ∷ bs) - 1 ≡ suc (length (c ∷ bs) - 1) = omega arith in
    (λ h. rest ∙ ap (λ n. set (class_of (get_or (b ∷ c ∷ bs) n 0))) (sym index), λ h. absurd (omega arith))

-- ---- the month of a name

pub month_step : (rows : List (Bor (List ℕ) × ℕ)) (i : ℕ) (d : Bor (List ℕ) × ℕ) (key : List ℕ) → i < length rows
    → month_in (rows_of (drop i rows)) key ≡ cond (bytes_eq key (canonical_key (chars (get_or rows i d).0.now))) (Some (get_or rows i d).1) (month_in (rows_of (drop (i + 1) rows)) key)
month_step rows i d key within = rw (add-one i) (ap (λ x. month_in (rows_of x) key) (drop-cons rows i d within))

pub month_here : (rows : List (Bor (List ℕ) × ℕ)) (i : ℕ) (d : Bor (List ℕ) × ℕ) (key : List ℕ) → i < length rows
    → key ≡ canonical_key (chars (get_or rows i d).0.now)
    → month_in (rows_of (drop i rows)) key ≡ Some (get_or rows i d).1
month_here rows i d key within same = month_step rows i d key within ∙ cond-true _ _ _ (bytes_eq-same _ _ same)

pub month_later : (rows : List (Bor (List ℕ) × ℕ)) (i : ℕ) (d : Bor (List ℕ) × ℕ) (key : List ℕ) → i < length rows
    → (key ≡ canonical_key (chars (get_or rows i d).0.now) → ⊥)
    → month_in (rows_of (drop i rows)) key ≡ month_in (rows_of (drop (i + 1) rows)) key
month_later rows i d key within apart =
    month_step rows i d key within ∙ cond-false _ _ _ (false_from_ne_true _ (λ h. apart (bytes_eq-true _ _ h)))

pub month_refused : (l : Language) (piece : List ℕ) → (IsUtf8 piece → ⊥) → month_of l piece ≡ None
month_refused l piece no_text =
    cond-false _ _ _ (and_left (is_utf8 piece) _ (false_from_ne_true _ (λ h. no_text (IsUtf8-from_is_utf8 piece h))))

pub month_read : (l : Language) (piece : List ℕ) → IsUtf8 piece
    → month_of l piece ≡ cond (begins_in letters piece && ends_in letters piece) (option_map (λ m. Some m) (month_in (names l) (canonical_key (chars piece)))) None
month_read l piece text = rw (is_utf8-from_IsUtf8 piece text) refl

pub ruleset runs = (run_fits, run_taken, run_dropped)

pub ruleset reading = (piece_fits, piece_digits, piece_taken, read_nil, read_more, read_refused, read_lost, read_found)
