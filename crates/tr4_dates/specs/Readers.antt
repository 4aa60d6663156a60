-- How the code reads a text from the front, part by part. No public contract cites it: the laws join it to the parts.
use Rattle.std.specs.Prelude.{ℕ, Bool, true, false, not, ◌&&◌, nat_le, List, [], ◌∷◌, ◌++◌, length, drop, map, chars, bytes_eq, if◌then◌else◌, Option, Some, None, option_map, option_and_then}
use Rattle.std.specs.Char.{to_ascii_lowercase}
use Rattle.std.specs.Str.{is_utf8}
use Rattle.caseless.specs.Caseless.{canonical_key}
use Rattle.tr4_dates.specs.declared.format.Language.{Language}
use Rattle.tr4_dates.specs.declared.part.Part.{Part}
use Rattle.tr4_dates.specs.declared.part.Part.TheVariants.{Day, Month, Year, Gap, Tail, Signs, Edge, Ordinal, Name}
use Rattle.tr4_dates.specs.Languages.{Row, names, has_links}
use Rattle.tr4_dates.specs.Runs.{class_of, digits, letters, others, signs, alphanumerics, begins_in, ends_in, number, run, after}
use Rattle.tr4_dates.specs.Parts.{is_year_size, year_of, is_ordinal, is_link_word, nothing, put}
use Rattle.tr4_dates.specs.declared.part.Fields.{Fields}

-- ---- the piece that a part takes from the front of a text

-- de or del with a sign behind it is at the front
abbrev pub is_linked : List ℕ → Bool
is_linked text = is_link_word (run letters text) && begins_in signs (after letters text)

abbrev pub link_and_signs : List ℕ → List ℕ
link_and_signs text = run letters text ++ run signs (after letters text)

unfoldable pub separator : Language → List ℕ → List ℕ
separator l text =
    if has_links l && is_linked (after signs text)
    then run signs text ++ link_and_signs (after signs text)
    else run signs text

-- a name may end before this text: a separator follows and no letter behind it
unfoldable pub closes : Language → List ℕ → Bool
closes l text = not (begins_in alphanumerics text) && not (begins_in letters (drop (length (separator l text)) text))

unfoldable pub name_at : Language → List ℕ → List ℕ
name_at l [] = []
name_at l (b ∷ bs) = if letters (class_of b) && closes l bs then b ∷ [] else b ∷ name_at l bs

unfoldable pub piece_at : Language → Part → List ℕ → List ℕ
piece_at l Day text = run digits text
piece_at l Month text = run digits text
piece_at l Year text = run digits text
piece_at l Gap text = run others text
piece_at l Tail text = run others text
piece_at l Signs text = separator l text
piece_at l Edge text = run signs text
piece_at l Ordinal text = run letters text
piece_at l Name text = name_at l text

-- ---- what a piece says, none where it isn't in the part's set

abbrev pub when : Bool → Option ℕ → Option (Option ℕ)
when test ns = if test then Some ns else None

abbrev pub is_within : ℕ → ℕ → ℕ → Bool
is_within low high n = nat_le low n && nat_le n high

abbrev pub small : ℕ → List ℕ → Option (Option ℕ)
small limit piece = when (is_within 1 2 (length piece) && is_within 1 limit (number piece)) (Some (number piece))

abbrev pub year : List ℕ → Option (Option ℕ)
year piece = when (is_year_size (length piece) && nat_le 1 (year_of piece)) (Some (year_of piece))

abbrev pub month_in : List Row → List ℕ → Option ℕ
month_in [] key = None
month_in (row ∷ rows) key = if bytes_eq key (canonical_key row.0) then Some row.1 else month_in rows key

abbrev pub month_of : Language → List ℕ → Option (Option ℕ)
month_of l piece =
    if is_utf8 piece && (begins_in letters piece && ends_in letters piece)
    then option_map (λ m. Some m) (month_in (names l) (canonical_key (chars piece)))
    else None

unfoldable pub says : Language → Part → List ℕ → Option (Option ℕ)
says l Day piece = small 31 piece
says l Month piece = small 12 piece
says l Year piece = year piece
says l Gap piece = when (nat_le 1 (length piece)) None
says l Tail piece = Some None
says l Signs piece = when (begins_in signs piece) None
says l Edge piece = Some None
says l Ordinal piece = when (is_ordinal l (map to_ascii_lowercase piece)) None
says l Name piece = month_of l piece

unfoldable pub read : Language → List Part → List ℕ → Option Fields
read l [] [] = Some nothing
read l [] (b ∷ bs) = None
read l (p ∷ ps) text =
    option_and_then
    (λ own. option_map (λ more. put p own more) (read l ps (drop (length (piece_at l p text)) text)))
    (says l p (piece_at l p text))

-- the part takes digits
abbrev pub is_number_part : Part → Bool
is_number_part Day = true
is_number_part Month = true
is_number_part Year = true
is_number_part Gap = false
is_number_part Tail = false
is_number_part Signs = false
is_number_part Edge = false
is_number_part Ordinal = false
is_number_part Name = false
