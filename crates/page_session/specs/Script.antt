-- The lines of a script, or where it is bad.
use Rattle.std.specs.Prelude.{ℕ, suc, ◌==◌, nat_eq, nat_lt, Bool, true, false, List, [], ◌∷◌, length, drop, Option, Some, None, if◌then◌else◌, bytes_eq, codes, option_map}
use Rattle.std.specs.List.{starts_with}
use Rattle.std.specs.Str.{is_utf8}
use Rattle.ix_base.specs.declared.limits.TheConstants.{LONGEST_SCRIPT}
use Rattle.page_names.specs.Names.{is_page_name}
use Rattle.page_session.specs.declared.script.Line.{Line}
use Rattle.page_session.specs.declared.script.Line.TheVariants as line
use Rattle.page_session.specs.declared.script.Script.{Script}
use Rattle.page_session.specs.declared.script.Script.TheVariants.{Good, Bad}

-- Lines as they are written.

-- where a line starts, its bytes up to its line feed, and whether it has one
pub record Written : Type 0 where
  pub start : ℕ
  pub text : List ℕ
  pub ended : Bool

-- a byte in front of the lines behind it, of which it begins the first
abbrev pub put_first : ℕ → ℕ → List Written → List Written
put_first n b [] = record { start = n; text = b ∷ []; ended = false } ∷ []
put_first n b (l ∷ ls) = record { start = n; text = b ∷ l.text; ended = l.ended } ∷ ls

-- the lines of bytes, of which the first has this offset
abbrev pub lines_from : ℕ → List ℕ → List Written
lines_from n [] = []
lines_from n (b ∷ bs) =
    if b == 10 then record { start = n; text = []; ended = true } ∷ lines_from (suc n) bs else put_first n b (lines_from (suc n) bs)

-- What they say.

-- a name that may name a page
abbrev pub page_name : List ℕ → Option (List ℕ)
page_name name = if is_page_name name then Some name else None

-- the line that a text is, if it has one of the four forms
abbrev pub line_in : List ℕ → Option Line
line_in text =
    if bytes_eq text (codes "check") then Some line.Check
    else (if bytes_eq text (codes "extract") then Some line.Extract
    else (if starts_with nat_eq text (codes "put ") then option_map line.Put (page_name (drop 4 text))
    else (if starts_with nat_eq text (codes "drop ") then option_map line.Drop (page_name (drop 5 text))
    else None)))

abbrev pub is_extract : Line → Bool
is_extract line.Extract = true
is_extract (line.Put name) = false
is_extract (line.Drop name) = false
is_extract line.Check = false

-- a line that may stand there: the last is an extract, and no other
abbrev pub in_its_place : Bool → Option Line → Option Line
in_its_place last None = None
in_its_place true (Some l) = if is_extract l then Some l else None
in_its_place false (Some l) = if is_extract l then None else Some l

-- the line that these bytes are, if they are a good one: they are UTF-8, and it has one of the forms and may stand there
abbrev pub good_line : Bool → List ℕ → Option Line
good_line last bytes = if is_utf8 bytes then in_its_place last (line_in bytes) else None

-- and it is ended
abbrev pub line_written : Bool → Written → Option Line
line_written last w = if w.ended then good_line last w.text else None

abbrev pub is_last : List Written → Bool
is_last [] = true
is_last (w ∷ ws) = false

-- a line in front of what lines say; a bad one is the first bad one
abbrev pub before : ℕ → Option Line → Script → Script
before n None rest = Bad n
before n (Some l) (Bad at) = Bad at
before n (Some l) (Good ls) = Good (record { start = n; line = l } ∷ ls)

-- what lines say: each with its start, or where the first bad one starts
abbrev pub said : List Written → Script
said [] = Good []
said (w ∷ ws) = before w.start (line_written (is_last ws) w) (said ws)

abbrev pub unless_none : List Written → Script
unless_none [] = Bad 0
unless_none (w ∷ ws) = said (w ∷ ws)

-- What a script says: where it is longer than it may be, it is bad at its first byte too many, and else at 0 where it has no line.
abbrev pub script_of : List ℕ → Script
script_of script = if nat_lt LONGEST_SCRIPT (length script) then Bad LONGEST_SCRIPT else unless_none (lines_from 0 script)
