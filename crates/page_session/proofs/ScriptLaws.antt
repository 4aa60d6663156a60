-- A script, line by line.
use Rattle.std.proofs.Common.{◌≡◌, ◌∙◌, ap, sym, refl, ℕ, zero, suc, ◌+◌, ◌-◌, ◌≤◌, ◌<◌, ◌==◌, Bool, true, false, cond, if◌then◌else◌, nat_lt, List, [], ◌∷◌, ◌++◌, length, take, drop, get_or, Option, Some, None, subst, arith, ◌⊎◌, inl, inr, length-drop}
use Rattle.ix_base.specs.declared.limits.TheConstants.{LONGEST_SCRIPT}
use Rattle.std.proofs.lemmas.List.{drop-drop, take_rest}
use mathlib.Core.Bool.{beq, not}
use Rattle.std.specs.List.{position_or_len}
use Rattle.std.specs.Prelude.{position, IsUtf8}
use Rattle.std.specs.Str.{is_utf8}
use Rattle.std.proofs.lemmas.Bool.{cases_lt, eq-eqb, le-ltb, ltb-false, ltb-true, ne_eqb}
use Rattle.std.proofs.lemmas.List.Sums.{fails_before_first, passes_at_first}
use Rattle.std.proofs.lemmas.Str.{IsUtf8-from_is_utf8, is_utf8-from_IsUtf8}
use Rattle.page_session.specs.Script.{Written, before, good_line, in_its_place, is_extract, is_last, line_in, line_written, lines_from, put_first, said, script_of, unless_none}
use Rattle.page_session.specs.declared.script.Line.{Line}
use Rattle.page_session.specs.declared.script.Script.{Script}
use Rattle.page_session.specs.declared.script.Script.TheVariants.{Good, Bad}
use Rattle.page_session.specs.declared.script.ScriptLine.{ScriptLine}

-- a line by itself

pub not_utf8 : (last : Bool) (bytes : List ℕ) → (IsUtf8 bytes → ⊥) → None ≡ good_line last bytes
not_utf8 last bytes bad_bytes = by (is_utf8 bytes) refl
  where
    by : (v : Bool) → is_utf8 bytes ≡ v → None ≡ (if v then in_its_place last (line_in bytes) else None)
    by true e = absurd (bad_bytes (IsUtf8-from_is_utf8 bytes e))
    by false e = refl

utf8_line : (last : Bool) (bytes : List ℕ) (o : Option Line) → IsUtf8 bytes → line_in bytes ≡ o → in_its_place last o ≡ good_line last bytes
utf8_line last bytes o utf8 is = λ i. if sym (is_utf8-from_IsUtf8 bytes utf8) i then in_its_place last (sym is i) else None

out_of_place : (last r v : Bool) (l : Line) → is_extract l ≡ v → r ≡ v → not (beq r last) ≡ true → None ≡ in_its_place last (Some l)
out_of_place true r true l e s ne = absurd (let t : not (beq true true) ≡ true = subst (λ x. not (beq x true) ≡ true) s ne in cc)
out_of_place true r false l e s ne = λ i. if sym e i then Some l else None
out_of_place false r true l e s ne = λ i. if sym e i then None else Some l
out_of_place false r false l e s ne = absurd (let t : not (beq false false) ≡ true = subst (λ x. not (beq x false) ≡ true) s ne in cc)

pub misplaced : (last r : Bool) (text bytes : List ℕ) (l : Line) → text ≡ bytes → IsUtf8 bytes → line_in text ≡ Some l → r ≡ is_extract l → not (beq r last) ≡ true
    → None ≡ good_line last bytes
misplaced last r text bytes l same utf8 is e ne =
    out_of_place last r (is_extract l) l refl e ne ∙ utf8_line last bytes (Some l) utf8 (ap line_in (sym same) ∙ is)

in_place : (last r v : Bool) (l : Line) → is_extract l ≡ v → r ≡ v → not (beq r last) ≡ false → Some l ≡ in_its_place last (Some l)
in_place true r true l e s ne = λ i. if sym e i then Some l else None
in_place false r false l e s ne = λ i. if sym e i then None else Some l
in_place true r false l e s ne = absurd (let t : not (beq false true) ≡ false = subst (λ x. not (beq x true) ≡ false) s ne in cc)
in_place false r true l e s ne = absurd (let t : not (beq true false) ≡ false = subst (λ x. not (beq x false) ≡ false) s ne in cc)

pub placed : (last r : Bool) (text bytes : List ℕ) (l : Line) → text ≡ bytes → IsUtf8 bytes → line_in text ≡ Some l → r ≡ is_extract l → not (beq r last) ≡ false
    → Some l ≡ good_line last bytes
placed last r text bytes l same utf8 is e ne =
    in_place last r (is_extract l) l refl e ne ∙ utf8_line last bytes (Some l) utf8 (ap line_in (sym same) ∙ is)

-- where a line is cut

cut_at : (n : ℕ) (bs : List ℕ) (end : ℕ) → end < length bs → (get_or bs end 0 == 10) ≡ true → ((k : ℕ) → k < end → (get_or bs k 0 == 10) ≡ false)
    → lines_from n bs ≡ record { start = n; text = take end bs; ended = true } ∷ lines_from (suc (n + end)) (drop (suc end) bs)
cut_at n [] end l here none = absurd (omega arith)
cut_at n (b ∷ bs) zero l here none =
    let m : suc n ≡ suc (n + 0) = omega arith in
    (λ i. if here i then record { start = n; text = []; ended = true } ∷ lines_from (suc n) bs else put_first n b (lines_from (suc n) bs))
    ∙ (λ i. record { start = n; text = []; ended = true } ∷ lines_from (m i) bs)
cut_at n (b ∷ bs) (suc end) l here none =
    let m : suc (suc n + end) ≡ suc (n + suc end) = omega arith in
    (λ i. if none 0 (omega arith) i then record { start = n; text = []; ended = true } ∷ lines_from (suc n) bs else put_first n b (lines_from (suc n) bs))
    ∙ ap (put_first n b) (cut_at (suc n) bs end (omega arith) here (λ k h. none (suc k) (omega arith)))
    ∙ (λ i. record { start = n; text = b ∷ take end bs; ended = true } ∷ lines_from (m i) (drop (suc end) bs))

uncut_from : (n : ℕ) (b : ℕ) (bs : List ℕ) → ((k : ℕ) → k < length (b ∷ bs) → (get_or (b ∷ bs) k 0 == 10) ≡ false)
    → lines_from n (b ∷ bs) ≡ record { start = n; text = b ∷ bs; ended = false } ∷ []
uncut_from n b [] none = λ i. if none 0 (omega arith) i then record { start = n; text = []; ended = true } ∷ [] else put_first n b []
uncut_from n b (c ∷ bs) none =
    (λ i. if none 0 (omega arith) i then record { start = n; text = []; ended = true } ∷ lines_from (suc n) (c ∷ bs) else put_first n b (lines_from (suc n) (c ∷ bs)))
    ∙ ap (put_first n b) (uncut_from (suc n) c bs (λ k h. none (suc k) (omega arith)))

-- where the first line feed stands
abbrev pub is_feed : ℕ → Bool
is_feed b = b == 10

place_is : (bs : List ℕ) (v : Bool) (end : ℕ) → nat_lt (position_or_len is_feed bs) (length bs) ≡ v → Some end ≡ cond v (Some (position_or_len is_feed bs)) None
    → (end ≡ position_or_len is_feed bs) × (position_or_len is_feed bs < length bs)
place_is bs true end e is = (let some = is in cc, ltb-true (position_or_len is_feed bs) (length bs) e)
place_is bs false end e is = absurd (let some = is in cc)

-- a line is cut at the first line feed
pub cut_line : (n : ℕ) (bs : List ℕ) (end : ℕ) → Some end ≡ position is_feed bs
    → (end < length bs) × (lines_from n bs ≡ record { start = n; text = take end bs; ended = true } ∷ lines_from (suc (n + end)) (drop (suc end) bs))
cut_line n bs end is =
    let p = place_is bs (nat_lt (position_or_len is_feed bs) (length bs)) end refl is in
    let l : end < length bs = omega (arith, p.0, p.1) in (
      l,
      cut_at n bs end l (subst (λ k. is_feed (get_or bs k 0) ≡ true) (sym p.0) (passes_at_first is_feed bs 0 p.1))
          (λ k h. fails_before_first is_feed bs k 0 (let z : k < position_or_len is_feed bs = omega (arith, p.0, h) in z)),
    )

no_place : (bs : List ℕ) (v : Bool) → nat_lt (position_or_len is_feed bs) (length bs) ≡ v → None ≡ cond v (Some (position_or_len is_feed bs)) None → v ≡ false
no_place bs true e is = absurd (let none = is in cc)
no_place bs false e is = refl

-- where none stands, the rest is one line, which isn't ended
pub uncut_line : (n : ℕ) (bs : List ℕ) → 0 < length bs → None ≡ position is_feed bs → lines_from n bs ≡ record { start = n; text = bs; ended = false } ∷ []
uncut_line n [] some is = absurd (omega arith)
uncut_line n (b ∷ bs) some is =
    let long : length (b ∷ bs) ≤ position_or_len is_feed (b ∷ bs) =
    ltb-false (position_or_len is_feed (b ∷ bs)) (length (b ∷ bs)) (no_place (b ∷ bs) (nat_lt (position_or_len is_feed (b ∷ bs)) (length (b ∷ bs))) refl is) in
    uncut_from n b bs (λ k h. fails_before_first is_feed (b ∷ bs) k 0 (omega (arith, long, h)))

-- lines one behind another

-- lines that were read, in front of what the rest says
abbrev pub joined : List ScriptLine → Script → Script
joined [] rest = rest
joined (l ∷ ls) rest = before l.start (Some l.line) (joined ls rest)

pub joined-more : (ls : List ScriptLine) (l : ScriptLine) (rest : Script) → joined (ls ++ l ∷ []) rest ≡ joined ls (before l.start (Some l.line) rest)
joined-more [] l rest = refl
joined-more (m ∷ ls) l rest = ap (before m.start (Some m.line)) (joined-more ls l rest)

pub joined-bad : (ls : List ScriptLine) (at : ℕ) → joined ls (Bad at) ≡ Bad at
joined-bad [] at = refl
joined-bad (l ∷ ls) at = ap (before l.start (Some l.line)) (joined-bad ls at)

pub joined-good : (ls : List ScriptLine) → joined ls (Good []) ≡ Good ls
joined-good [] = refl
joined-good (l ∷ ls) = ap (before l.start (Some l.line)) (joined-good ls)

-- what a script says from an offset on
abbrev pub said_from : ℕ → List ℕ → Script
said_from n script = said (lines_from n (drop n script))

first-some : (n b : ℕ) (ws : List Written) → is_last (put_first n b ws) ≡ false
first-some n b [] = refl
first-some n b (w ∷ ws) = refl

some-lines : (n b : ℕ) (bs : List ℕ) (v : Bool) → is_last (if v then record { start = n; text = []; ended = true } ∷ lines_from (suc n) bs else put_first n b (lines_from (suc n) bs)) ≡ false
some-lines n b bs true = refl
some-lines n b bs false = first-some n b (lines_from (suc n) bs)

last_none : (n : ℕ) (bs : List ℕ) → length bs ≤ 0 → is_last (lines_from n bs) ≡ true
last_none n [] e = refl
last_none n (b ∷ bs) e = absurd (omega arith)

last_some : (n : ℕ) (bs : List ℕ) → 0 < length bs → is_last (lines_from n bs) ≡ false
last_some n [] l = absurd (omega arith)
last_some n (b ∷ bs) l = some-lines n b bs (b == 10)

-- no line is left exactly where no byte is
last_at : (m : ℕ) (script : List ℕ) → m ≤ length script → is_last (lines_from m (drop m script)) ≡ (m == length script)
last_at m script within = by (cases_lt m (length script))
  where
    by : (m < length script) ⊎ (length script ≤ m) → is_last (lines_from m (drop m script)) ≡ (m == length script)
    by (inl l) = last_some m (drop m script) (omega (arith, length-drop m script)) ∙ sym (ne_eqb m (length script) (λ e. omega arith))
    by (inr l) = last_none m (drop m script) (omega (arith, length-drop m script)) ∙ sym (eq-eqb m (length script) (omega arith))

unless_some : (ws : List Written) → is_last ws ≡ false → unless_none ws ≡ said ws
unless_some [] e = absurd cc
unless_some (w ∷ ws) e = refl

-- a script that is neither too long nor empty says what its lines say
pub script_is : (script : List ℕ) → length script ≤ LONGEST_SCRIPT → 0 < length script → said_from 0 script ≡ script_of script
script_is script short some =
    sym ((λ i. if le-ltb LONGEST_SCRIPT (length script) short i then Bad LONGEST_SCRIPT else unless_none (lines_from 0 script))
    ∙ unless_some (lines_from 0 script) (last_some 0 script some))

-- at a line that isn't ended
pub not_ended : (n : ℕ) (script : List ℕ) → n < length script → None ≡ position is_feed (take (length script - n) (drop n script)) → said_from n script ≡ Bad n
not_ended n script l is =
    ap said (uncut_line n (drop n script) (omega (arith, length-drop n script)) (is ∙ ap (λ rest. position is_feed rest) (take_rest script n)))

-- at a line that is ended
pub next_line : (n end m : ℕ) (script : List ℕ) (o : Option Line) → n < length script → Some end ≡ position is_feed (take (length script - n) (drop n script))
    → m ≡ n + end + 1 → o ≡ good_line (m == length script) (take end (take (length script - n) (drop n script)))
    → (m ≤ length script) × (said_from n script ≡ before n o (said_from m script))
next_line n end m script o l is at good =
    let cut = cut_line n (drop n script) end (is ∙ ap (λ rest. position is_feed rest) (take_rest script n)) in
    let within : m ≤ length script = omega (arith, cut.0, length-drop n script) in
    let here : suc (n + end) ≡ m = omega arith in
    let far : n + suc end ≡ m = omega arith in
    let rest : drop (suc end) (drop n script) ≡ drop m script = drop-drop (suc end) n script ∙ ap (λ k. drop k script) far in
    let lines : lines_from (suc (n + end)) (drop (suc end) (drop n script)) ≡ lines_from m (drop m script) = λ i. lines_from (here i) (rest i) in
    let line : line_written (is_last (lines_from m (drop m script))) (record { start = n; text = take end (drop n script); ended = true }) ≡ o =
    ap (λ last. good_line last (take end (drop n script))) (last_at m script within)
    ∙ ap (λ text. good_line (m == length script) (take end text)) (sym (take_rest script n)) ∙ sym good in (
      within,
      ap said cut.1
          ∙ (λ i. before n (line_written (is_last (lines i)) (record { start = n; text = take end (drop n script); ended = true })) (said (lines i)))
          ∙ (λ i. before n (line i) (said_from m script)),
    )

-- what stands behind lines that were read is bad, and so is the script
pub bad_from : (ls : List ScriptLine) (n : ℕ) (script : List ℕ) → length script ≤ LONGEST_SCRIPT → n < length script → joined ls (said_from n script) ≡ said_from 0 script
    → said_from n script ≡ Bad n → Bad n ≡ script_of script
bad_from ls n script short l was bad = sym (joined-bad ls n) ∙ ap (joined ls) (sym bad) ∙ was ∙ script_is script short (omega arith)

-- one more line was read
pub joined_on : (ls more : List ScriptLine) (l : ScriptLine) (n m : ℕ) (script : List ℕ) → joined ls (said_from n script) ≡ said_from 0 script
    → said_from n script ≡ before l.start (Some l.line) (said_from m script) → more ≡ ls ++ l ∷ [] → joined more (said_from m script) ≡ said_from 0 script
joined_on ls more l n m script was next pushed =
    ap (λ xs. joined xs (said_from m script)) pushed ∙ joined-more ls l (said_from m script) ∙ ap (joined ls) (sym next) ∙ was

none_said : (n : ℕ) (rest : List ℕ) → length rest ≤ 0 → said (lines_from n rest) ≡ Good []
none_said n [] e = refl
none_said n (b ∷ bs) e = absurd (omega arith)

-- no line is left
pub all_said : (ls : List ScriptLine) (n : ℕ) (script : List ℕ) → length script ≤ LONGEST_SCRIPT → 0 < length script → length script ≤ n
    → joined ls (said_from n script) ≡ said_from 0 script → Good ls ≡ script_of script
all_said ls n script short some end was =
    sym (joined-good ls) ∙ ap (joined ls) (sym (none_said n (drop n script) (omega (arith, length-drop n script)))) ∙ was ∙ script_is script short some
