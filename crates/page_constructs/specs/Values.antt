-- References, and the values of attributes (XML 1.0 sections 3.3.3, 4.1 and 4.6). No entity but the predefined ones is known.
use Rattle.std.specs.Prelude.{ℕ, ◌+◌, ◌-◌, ◌*◌, ◌==◌, nat_le, ◌||◌, List, [], ◌∷◌, ◌++◌, length, take, drop, Option, Some, None, option_map, if◌then◌else◌, bytes_eq, codes, encode_utf8}
use Rattle.std.specs.Option.{option_and_then}
use Rattle.ix_base.specs.NcName.{lies, is_allowed}
use Rattle.page_constructs.specs.Constructs.{starts}

-- the value of a digit
abbrev pub digit : ℕ → Option ℕ
digit c =
    if lies 48 57 c then Some (c - 48) else (if lies 65 70 c then Some (c - 55) else (if lies 97 102 c then Some (c - 87) else None))

abbrev pub below : ℕ → Option ℕ → Option ℕ
below base None = None
below base (Some d) = if nat_le base d then None else Some d

-- the number that digits of a base write, behind a number that stands in front of them
abbrev pub number_behind : ℕ → ℕ → List ℕ → Option ℕ
number_behind base n [] = Some n
number_behind base n (c ∷ cs) = option_and_then (λ d. number_behind base (n * base + d) cs) (below base (digit c))

-- one or more digits of a base
abbrev pub number_in : ℕ → List ℕ → Option ℕ
number_in base [] = None
number_in base (c ∷ cs) = number_behind base 0 (c ∷ cs)

abbrev pub allowed : ℕ → Option ℕ
allowed c = if is_allowed c then Some c else None

-- the character that a reference means, by what stands between its `&` and its `;`
unfoldable pub referred : List ℕ → Option ℕ
referred inner =
    if bytes_eq inner (codes "lt") then Some 60
    else (if bytes_eq inner (codes "gt") then Some 62
    else (if bytes_eq inner (codes "amp") then Some 38
    else (if bytes_eq inner (codes "apos") then Some 39
    else (if bytes_eq inner (codes "quot") then Some 34
    else (if starts (codes "#x") inner then option_and_then allowed (number_in 16 (drop 2 inner))
    else (if starts (codes "#") inner then option_and_then allowed (number_in 10 (drop 1 inner))
    else None))))))

abbrev pub spelled : Option ℕ → Option (List ℕ)
spelled c = option_map encode_utf8 c

-- What is written in a value, as what it means: a character means itself, but a tab or a line feed means a space; a
-- reference means its character. The first argument holds what came of an open reference behind its `&`.
unfoldable pub meant_in : Option (List ℕ) → List ℕ → Option (List ℕ)
meant_in None [] = Some []
meant_in (Some inner) [] = None
meant_in (Some inner) (c ∷ cs) =
    if c == 59 then option_and_then (λ char. option_map (λ more. char ++ more) (meant_in None cs)) (spelled (referred inner))
    else meant_in (Some (inner ++ c ∷ [])) cs
meant_in None (c ∷ cs) =
    if c == 38 then meant_in (Some []) cs
    else option_map (λ more. (if c == 9 || c == 10 then 32 else c) ∷ more) (meant_in None cs)

-- the value that is written so; none where a reference in it is bad
abbrev pub value_of : List ℕ → Option (List ℕ)
value_of raw = meant_in None raw

-- what a whole construct that begins with `&` means, as bytes
abbrev pub referred_by : List ℕ → Option (List ℕ)
referred_by text =
    if bytes_eq (drop (length text - 1) text) (59 ∷ []) then spelled (referred (take (length text - 2) (drop 1 text))) else None
