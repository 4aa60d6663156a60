-- Rows of parts in which each part can be told from what follows it.
use Rattle.std.proofs.Common.{Bool, true, false, not, ◌&&◌, ◌||◌, List, [], ◌∷◌, if◌then◌else◌}
use Rattle.tr4_dates.specs.declared.part.Part.{Part}
use Rattle.tr4_dates.specs.declared.part.Part.TheVariants.{Day, Month, Year, Gap, Tail, Signs, Edge, Ordinal, Name}
use Rattle.tr4_dates.specs.Readers.{is_number_part}
use Rattle.tr4_dates.specs.Runs.{Class, Digit, Letter, Sign, digits, letters, others, signs}

-- the set of the run that a part takes, or that its first byte is of
abbrev pub set_of : Part → Class → Bool
set_of Day = digits
set_of Month = digits
set_of Year = digits
set_of Gap = others
set_of Tail = others
set_of Signs = signs
set_of Edge = signs
set_of Ordinal = letters
set_of Name = letters

abbrev pub may_be_empty : Part → Bool
may_be_empty Day = false
may_be_empty Month = false
may_be_empty Year = false
may_be_empty Gap = false
may_be_empty Tail = true
may_be_empty Signs = false
may_be_empty Edge = true
may_be_empty Ordinal = true
may_be_empty Name = false

abbrev pub may_begin : List Part → Class → Bool
may_begin [] c = false
may_begin (p ∷ ps) c = set_of p c || (may_be_empty p && may_begin ps c)

abbrev pub is_apart : (Class → Bool) → (Class → Bool) → Bool
is_apart f g = not (f Digit && g Digit) && (not (f Letter && g Letter) && not (f Sign && g Sign))

-- a number or a name comes next
abbrev pub is_value_next : List Part → Bool
is_value_next [] = false
is_value_next (Day ∷ ps) = true
is_value_next (Month ∷ ps) = true
is_value_next (Year ∷ ps) = true
is_value_next (Name ∷ ps) = true
is_value_next (Gap ∷ ps) = false
is_value_next (Tail ∷ ps) = false
is_value_next (Signs ∷ ps) = false
is_value_next (Edge ∷ ps) = false
is_value_next (Ordinal ∷ ps) = false

abbrev pub is_number_next : List Part → Bool
is_number_next [] = false
is_number_next (p ∷ ps) = is_number_part p

abbrev pub is_end : List Part → Bool
is_end [] = true
is_end (p ∷ ps) = false

-- what may follow a name: signs and a number, or an edge and the end
abbrev pub is_name_end : List Part → Bool
is_name_end [] = false
is_name_end (Signs ∷ ps) = is_number_next ps
is_name_end (Edge ∷ ps) = is_end ps
is_name_end (Day ∷ ps) = false
is_name_end (Month ∷ ps) = false
is_name_end (Year ∷ ps) = false
is_name_end (Gap ∷ ps) = false
is_name_end (Tail ∷ ps) = false
is_name_end (Ordinal ∷ ps) = false
is_name_end (Name ∷ ps) = false

abbrev pub is_told : Part → List Part → Bool
is_told Day ps = is_apart digits (may_begin ps)
is_told Month ps = is_apart digits (may_begin ps)
is_told Year ps = is_apart digits (may_begin ps)
is_told Gap ps = is_apart others (may_begin ps)
is_told Tail ps = is_apart others (may_begin ps)
is_told Signs ps = is_value_next ps
is_told Edge ps = is_apart signs (may_begin ps)
is_told Ordinal ps = is_apart letters (may_begin ps)
is_told Name ps = is_name_end ps

-- whether the text in front of what follows may end in a digit
abbrev pub may_end : Bool → Part → Bool
may_end before p = if is_number_part p then true else (if may_be_empty p then before else false)

abbrev pub is_row : Bool → List Part → Bool
is_row before [] = true
is_row before (p ∷ ps) = not (is_number_part p && before) && (is_told p ps && is_row (may_end before p) ps)
