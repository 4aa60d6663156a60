-- Texts that the code borrows, as lists of bytes.
use Rattle.std.specs.Prelude.{ℕ, List, ◌++◌, nat_lt, if◌then◌else◌, Option, None, option_map, encode_utf8}
use Rattle.std.specs.Option.{option_and_then}
use Rattle.page_constructs.specs.Values.{meant_in}
use denote.Ref.{Bor}

-- two texts
abbrev pub parted : Bor (List ℕ) × Bor (List ℕ) → List ℕ × List ℕ
parted r = (r.0.now, r.1.now)

-- a number, but no more than the first above those of all characters
abbrev pub up_to_beyond : ℕ → ℕ
up_to_beyond n = if nat_lt n 0x110000 then n else 0x110000

-- what a value means from here on: a character, and then what the rest means
abbrev pub after_char : Option (ℕ × Bor (List ℕ)) → Option (List ℕ)
after_char r = option_and_then (λ x. option_map (λ more. encode_utf8 x.0 ++ more) (meant_in None x.1.now)) r
