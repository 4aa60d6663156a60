-- What a writer holds after a piece was put into it, where the writer says.
use Rattle.std.specs.Prelude.{ℕ, List, take, Option, None}
use Rattle.std.specs.Io.KnownBytes.{Appends}

-- a front of the piece was added
abbrev pub AppendsFront : Option (List ℕ) → Option (List ℕ) → List ℕ → Type 0
AppendsFront old new piece = (n : ℕ) × Appends old new (take n piece)

-- what an object tells that tells nothing
abbrev pub untold : Option (List ℕ)
untold = None
