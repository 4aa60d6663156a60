-- The parts of a date's text: which texts are in each part's set, and what they say. Texts are bytes: each cut between
-- two parts has an ASCII letter or digit on one side, so the pieces of a UTF-8 text are UTF-8, and a byte from 128 on is
-- one of a character that is no ASCII letter and no ASCII digit.
use Rattle.std.specs.Prelude.{ℕ, ◌≡◌, ◌≤◌, ◌+◌, ◌⊎◌, Bool, true, false, ◌||◌, ◌==◌, nat_le, List, [], ◌∷◌, ◌++◌, length, map, chars, codes, bytes_eq, IsUtf8, Option, Some, None, if◌then◌else◌}
use Rattle.std.specs.Char.{to_ascii_lowercase}
use Rattle.caseless.specs.Caseless.{IsCanonicalMatch}
use Rattle.tr4_dates.specs.Languages.{Row, names, ordinals, has_links}
use Rattle.tr4_dates.specs.declared.format.Language.{Language}
use Rattle.tr4_dates.specs.declared.part.Fields.{Fields}
use Rattle.tr4_dates.specs.declared.part.Part.{Part}
use Rattle.tr4_dates.specs.declared.part.Part.TheVariants.{Day, Month, Year, Gap, Tail, Signs, Edge, Ordinal, Name}
use Rattle.tr4_dates.specs.Runs.{digits, letters, others, signs, is_nil, all_in, begins_in, ends_in, number}

-- digits are the whole run: no digit stands before or behind them
pub record IsWhole (before behind : List ℕ) : Type 0 where
  pub front : ends_in digits before ≡ false
  pub back : begins_in digits behind ≡ false

-- one or two digits that say a number from 1 to the limit
pub record IsSmall (limit : ℕ) (piece : List ℕ) (n : ℕ) : Type 0 where
  pub digits : all_in digits piece ≡ true
  pub some : 1 ≤ length piece
  pub short : length piece ≤ 2
  pub value : n ≡ number piece
  pub low : 1 ≤ n
  pub high : n ≤ limit

-- a year has one, two or four digits
abbrev pub is_year_size : ℕ → Bool
is_year_size n = n == 1 || (n == 2 || n == 4)

-- one or two digits mean 2000 plus the number
abbrev pub year_of : List ℕ → ℕ
year_of piece = if nat_le (length piece) 2 then 2000 + number piece else number piece

pub record IsYear (piece : List ℕ) (n : ℕ) : Type 0 where
  pub digits : all_in digits piece ≡ true
  pub size : is_year_size (length piece) ≡ true
  pub value : n ≡ year_of piece
  pub low : 1 ≤ n

abbrev pub is_listed : List ℕ → List (List ℕ) → Bool
is_listed word [] = false
is_listed word (w ∷ ws) = bytes_eq word w || is_listed word ws

-- what may stand behind the digits of a day, by its lower case
abbrev pub is_ordinal : Language → List ℕ → Bool
is_ordinal l word = is_nil word || is_listed word (ordinals l)

pub record IsSigns (piece : List ℕ) : Type 0 where
  pub some : 1 ≤ length piece
  pub run : all_in signs piece ≡ true

-- de or del, in any ASCII case
abbrev pub is_link_word : List ℕ → Bool
is_link_word word = bytes_eq (map to_ascii_lowercase word) (codes "de") || bytes_eq (map to_ascii_lowercase word) (codes "del")

-- signs, de or del, signs
pub record IsLinked (piece : List ℕ) : Type 0 where
  pub front : List ℕ
  pub link : List ℕ
  pub back : List ℕ
  pub joined : piece ≡ front ++ (link ++ back)
  pub front_signs : IsSigns front
  pub is_de : is_link_word link ≡ true
  pub back_signs : IsSigns back

abbrev pub IsSeparator : Language → List ℕ → Type 0
IsSeparator l piece = IsSigns piece ⊎ ((has_links l ≡ true) × IsLinked piece)

-- the text is a canonical caseless match of a name in one of the rows, which has this month
abbrev pub IsNameIn : List Row → List ℕ → ℕ → Type 0
IsNameIn [] text month = ⊥
IsNameIn (row ∷ rows) text month = (IsCanonicalMatch (chars text) row.0 × (row.1 ≡ month)) ⊎ IsNameIn rows text month

pub record IsName (l : Language) (piece : List ℕ) (month : ℕ) : Type 0 where
  pub text : IsUtf8 piece
  pub first : begins_in letters piece ≡ true
  pub last : ends_in letters piece ≡ true
  pub named : IsNameIn (names l) piece month

-- the piece between the two texts is in the part's set, and says the number, if the part says one
abbrev pub IsIn : Language → Part → List ℕ → List ℕ → List ℕ → Option ℕ → Type 0
IsIn l Day before piece behind own = (n : ℕ) × (own ≡ Some n) × IsSmall 31 piece n × IsWhole before behind
IsIn l Month before piece behind own = (n : ℕ) × (own ≡ Some n) × IsSmall 12 piece n × IsWhole before behind
IsIn l Year before piece behind own = (n : ℕ) × (own ≡ Some n) × IsYear piece n × IsWhole before behind
IsIn l Gap before piece behind own = (own ≡ None) × (1 ≤ length piece) × (all_in others piece ≡ true)
IsIn l Tail before piece behind own = (own ≡ None) × (all_in others piece ≡ true)
IsIn l Signs before piece behind own = (own ≡ None) × IsSeparator l piece
IsIn l Edge before piece behind own = (own ≡ None) × (all_in signs piece ≡ true)
IsIn l Ordinal before piece behind own = (own ≡ None) × (is_ordinal l (map to_ascii_lowercase piece) ≡ true)
IsIn l Name before piece behind own = (n : ℕ) × (own ≡ Some n) × IsName l piece n

-- nothing said
abbrev pub nothing : Fields
nothing = record { year = None; month = None; day = None }

-- what a part says beside the others
abbrev pub put : Part → Option ℕ → Fields → Fields
put Day own more = record more { day = own }
put Month own more = record more { month = own }
put Year own more = record more { year = own }
put Gap own more = more
put Tail own more = more
put Signs own more = more
put Edge own more = more
put Ordinal own more = more
put Name own more = record more { month = own }

-- the text is a joining of the parts, each in its set, and says these numbers; before is the text in front of it
abbrev pub Joins : Language → List Part → List ℕ → List ℕ → Fields → Type 0
Joins l [] before text said = (text ≡ []) × (said ≡ nothing)
Joins l (p ∷ ps) before text said =
    (piece behind : List ℕ) × (own : Option ℕ) × (more : Fields) × (text ≡ piece ++ behind) × (said ≡ put p own more)
    × IsIn l p before piece behind own × Joins l ps (before ++ piece) behind more
