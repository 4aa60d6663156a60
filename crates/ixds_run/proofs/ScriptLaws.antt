-- The lines of a good script.
use Rattle.std.proofs.Common.{◌≡◌, ◌∙◌, ap, refl, ℕ, ◌≤◌, ◌&&◌, ◌||◌, Bool, true, false, All, nat_eq, nat_lt, nat_le, if◌then◌else◌, List, [], ◌∷◌, length, drop, Option, Some, None, IfSome, option_map, bytes_eq, codes, subst}
use Rattle.ix_base.specs.declared.limits.TheConstants.{LONGEST_NAME, LONGEST_SCRIPT}
use Rattle.std.specs.List.{list_all, list_any, starts_with}
use Rattle.std.specs.Str.{is_utf8}
use Rattle.std.proofs.lemmas.Bool.{leb-true, ltb-false}
use Rattle.std.proofs.lemmas.List.Elements.{All-cons, All-nil}
use Rattle.page_names.specs.Names.{is_page_name, may_stand_in_name}
use Rattle.page_session.specs.Script.{Written, before, good_line, in_its_place, is_extract, is_last, line_in, line_written, lines_from, page_name, said, script_of, unless_none}
use Rattle.page_session.specs.declared.script.Line.{Line}
use Rattle.page_session.specs.declared.script.Line.TheVariants as line
use Rattle.page_session.specs.declared.script.Script.{Script}
use Rattle.page_session.specs.declared.script.Script.TheVariants.{Good, Bad}
use Rattle.page_session.specs.declared.script.ScriptLine.{ScriptLine}
use Rattle.ixds_run.specs.ScriptRuns.{AreLines, IsShort}

either : {X : Type 0} (P : X → Type 0) (v : Bool) (o p : Option X) → IfSome o P → IfSome p P → IfSome (if v then o else p) P
either P true o p h k = h
either P false o p h k = k

good_is : (ls ks : List ScriptLine) → Good ls ≡ Good ks → ls ≡ ks
good_is ls ks e = cc

-- No name is too long.

both : (a b : Bool) → (a && b) ≡ true → (a ≡ true) × (b ≡ true)
both true b e = (refl, e)
both false b e = cc

name_by : (name : List ℕ) (v : Bool) → is_page_name name ≡ v → IfSome (if v then Some name else None) (λ n. length n ≤ LONGEST_NAME)
name_by name true is =
    leb-true (length name) LONGEST_NAME (both (nat_lt 0 (length name)) (nat_le (length name) LONGEST_NAME) (both (nat_lt 0 (length name) && nat_le (length name) LONGEST_NAME) (list_all may_stand_in_name name) is).0).1
name_by name false is = tt

put_short : (o : Option (List ℕ)) → IfSome o (λ n. length n ≤ LONGEST_NAME) → IfSome (option_map line.Put o) IsShort
put_short None h = tt
put_short (Some name) h = h

drop_short : (o : Option (List ℕ)) → IfSome (option_map line.Drop o) IsShort
drop_short None = tt
drop_short (Some name) = tt

line_short : (text : List ℕ) → IfSome (line_in text) IsShort
line_short text =
    let drops : Option Line = if starts_with nat_eq text (codes "drop ") then option_map line.Drop (page_name (drop 5 text)) else None in
    let puts : Option Line = if starts_with nat_eq text (codes "put ") then option_map line.Put (page_name (drop 4 text)) else drops in
    let extracts : Option Line = if bytes_eq text (codes "extract") then Some line.Extract else puts in
    either IsShort (bytes_eq text (codes "check")) (Some line.Check) extracts tt
    (either IsShort (bytes_eq text (codes "extract")) (Some line.Extract) puts tt
    (either IsShort (starts_with nat_eq text (codes "put ")) (option_map line.Put (page_name (drop 4 text))) drops
    (put_short (page_name (drop 4 text)) (name_by (drop 4 text) (is_page_name (drop 4 text)) refl))
    (either IsShort (starts_with nat_eq text (codes "drop ")) (option_map line.Drop (page_name (drop 5 text))) None (drop_short (page_name (drop 5 text))) tt)))

place_short : (last : Bool) (o : Option Line) → IfSome o IsShort → IfSome (in_its_place last o) IsShort
place_short last None h = tt
place_short true (Some l) h = either IsShort (is_extract l) (Some l) None h tt
place_short false (Some l) h = either IsShort (is_extract l) None (Some l) tt h

written_short : (last : Bool) (w : Written) → IfSome (line_written last w) IsShort
written_short last w = either IsShort w.ended (good_line last w.text) None (either IsShort (is_utf8 w.text) (in_its_place last (line_in w.text)) None (place_short last (line_in w.text) (line_short w.text)) tt) tt

short_step : (n : ℕ) (o : Option Line) (rest : Script) (ls : List ScriptLine) → IfSome o IsShort → ((ks : List ScriptLine) → rest ≡ Good ks → All (λ l. IsShort l.line) ks)
    → before n o rest ≡ Good ls → All (λ l. IsShort l.line) ls
short_step n None rest ls h more e = absurd (let z = e in cc)
short_step n (Some l) (Bad at) ls h more e = absurd (let z = e in cc)
short_step n (Some l) (Good ks) ls h more e = subst (λ (xs : List ScriptLine). All (λ x. IsShort x.line) xs) (good_is (record { start = n; line = l } ∷ ks) ls e)
    (All-cons (λ x. IsShort x.line) (record { start = n; line = l }) ks h (more ks refl))

all_short : (ws : List Written) (ls : List ScriptLine) → said ws ≡ Good ls → All (λ l. IsShort l.line) ls
all_short [] ls e = subst (λ (xs : List ScriptLine). All (λ x. IsShort x.line) xs) (good_is [] ls e) (All-nil (λ x. IsShort x.line))
all_short (w ∷ ws) ls e = short_step w.start (line_written (is_last ws) w) (said ws) ls (written_short (is_last ws) w) (all_short ws) e

-- The last line is an extract.

extract_by : (l : Line) (v : Bool) → is_extract l ≡ v → IfSome (if v then Some l else None) (λ k. is_extract k ≡ true)
extract_by l true is = is
extract_by l false is = tt

last_place : (o : Option Line) → IfSome (in_its_place true o) (λ k. is_extract k ≡ true)
last_place None = tt
last_place (Some l) = extract_by l (is_extract l) refl

last_extract : (w : Written) → IfSome (line_written true w) (λ k. is_extract k ≡ true)
last_extract w = either (λ k. is_extract k ≡ true) w.ended (good_line true w.text) None (either (λ k. is_extract k ≡ true) (is_utf8 w.text) (in_its_place true (line_in w.text)) None (last_place (line_in w.text)) tt) tt

or_true : (a : Bool) → (a || true) ≡ true
or_true true = refl
or_true false = refl

first_step : (n : ℕ) (o : Option Line) (rest : Script) (ls : List ScriptLine) → IfSome o (λ k. is_extract k ≡ true) → before n o rest ≡ Good ls → list_any (λ l. is_extract l.line) ls ≡ true
first_step n None rest ls h e = absurd (let z = e in cc)
first_step n (Some l) (Bad at) ls h e = absurd (let z = e in cc)
first_step n (Some l) (Good ks) ls h e =
    subst (λ (xs : List ScriptLine). list_any (λ x. is_extract x.line) xs ≡ true) (good_is (record { start = n; line = l } ∷ ks) ls e)
    (ap (λ (b : Bool). b || list_any (λ x. is_extract x.line) ks) h)

more_step : (n : ℕ) (o : Option Line) (rest : Script) (ls : List ScriptLine) → ((ks : List ScriptLine) → rest ≡ Good ks → list_any (λ l. is_extract l.line) ks ≡ true)
    → before n o rest ≡ Good ls → list_any (λ l. is_extract l.line) ls ≡ true
more_step n None rest ls more e = absurd (let z = e in cc)
more_step n (Some l) (Bad at) ls more e = absurd (let z = e in cc)
more_step n (Some l) (Good ks) ls more e =
    subst (λ (xs : List ScriptLine). list_any (λ x. is_extract x.line) xs ≡ true) (good_is (record { start = n; line = l } ∷ ks) ls e)
    (ap (λ (b : Bool). is_extract l || b) (more ks refl) ∙ or_true (is_extract l))

any_extract : (w : Written) (ws : List Written) (ls : List ScriptLine) → said (w ∷ ws) ≡ Good ls → list_any (λ l. is_extract l.line) ls ≡ true
any_extract w [] ls e = first_step w.start (line_written true w) (Good []) ls (last_extract w) e
any_extract w (v ∷ ws) ls e = more_step w.start (line_written false w) (said (v ∷ ws)) ls (any_extract v ws) e

-- A good script.

good_by : (v : Bool) (s : Script) (ls : List ScriptLine) → (if v then Bad LONGEST_SCRIPT else s) ≡ Good ls → (v ≡ false) × (s ≡ Good ls)
good_by true s ls e = absurd (let z = e in cc)
good_by false s ls e = (refl, e)

lines_by : (ws : List Written) (ls : List ScriptLine) → unless_none ws ≡ Good ls → AreLines ls
lines_by [] ls e = absurd (let z = e in cc)
lines_by (w ∷ ws) ls e = record { short = all_short (w ∷ ws) ls e; extract = any_extract w ws ls e }

pub script_lines : (script : List ℕ) (ls : List ScriptLine) → script_of script ≡ Good ls → AreLines ls
script_lines script ls e = lines_by (lines_from 0 script) ls (good_by (nat_lt LONGEST_SCRIPT (length script)) (unless_none (lines_from 0 script)) ls e).1

pub script_small : (script : List ℕ) (ls : List ScriptLine) → script_of script ≡ Good ls → length script ≤ LONGEST_SCRIPT
script_small script ls e = ltb-false LONGEST_SCRIPT (length script) (good_by (nat_lt LONGEST_SCRIPT (length script)) (unless_none (lines_from 0 script)) ls e).0
