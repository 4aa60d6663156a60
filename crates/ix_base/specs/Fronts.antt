-- What a list or a text has gained that was lent for appending, where memory was wanting.
use Rattle.std.specs.Prelude.{◌≡◌, ℕ, List, ◌++◌, take}

-- a front of what was to be appended
abbrev pub AppendsFront : {X : Type 0} → List X → List X → List X → Type 0
AppendsFront all old new = (n : ℕ) × (new ≡ old ++ take n all)
