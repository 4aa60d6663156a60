-- A page's text byte by byte, with its line ends unified (XML 1.0, section 2.11).
use Rattle.std.specs.Prelude.{ℕ, ◌+◌, ◌==◌, Bool, ◌&&◌, ◌||◌, List, [], ◌∷◌, ◌++◌, if◌then◌else◌}
use Rattle.page_constructs.specs.Constructs.{Byte, starts}

-- a byte behind a carriage return or not: CR LF is one line feed where the CR stands, as is a lone CR
abbrev pub raw_byte : Bool → ℕ → ℕ → List Byte
raw_byte after_cr c at =
    if c == 13 then record { value = 10; at = at } ∷ []
    else (if after_cr && c == 10 then [] else record { value = c; at = at } ∷ [])

abbrev pub raw : Bool → ℕ → List ℕ → List Byte
raw after_cr at [] = []
raw after_cr at (c ∷ bs) = raw_byte after_cr c at ++ raw (c == 13) (at + 1) bs

-- a byte order mark
abbrev pub mark_bytes : List ℕ
mark_bytes = 0xEF ∷ 0xBB ∷ 0xBF ∷ []

-- how many bytes it takes at the front
abbrev pub mark_size : List ℕ → ℕ
mark_size b = if starts mark_bytes b then 3 else 0

-- whether the construct that starts at an offset is the page's first
abbrev pub is_front : List ℕ → ℕ → Bool
is_front b from = from == 0 || (from == 3 && starts mark_bytes b)
