-- Marks of names: each name has one of 32, so that names of different marks are different.
use Rattle.std.specs.Prelude.{◌+◌, ◌*◌, ◌^◌, ◌%◌, List, [], ◌∷◌, ℕ, suc, length}
use Rattle.std.specs.Int.Bits.{bit_or}
use Rattle.ix_base.specs.Attributes.{Valued}

-- the mark of a name, by its first byte and its length
abbrev pub mark : List ℕ → ℕ
mark [] = 0
mark (b ∷ bs) = (b % 32 + suc (length bs) % 32 * 3) % 32

-- a set of marks, as the bits of a number, with those of the local names of these attributes
abbrev pub marks_with : ℕ → List Valued → ℕ
marks_with marks [] = marks
marks_with marks (a ∷ more) = marks_with (bit_or marks (2 ^ mark a.name.local)) more

-- the marks of the local names of these attributes
abbrev pub marks_of : List Valued → ℕ
marks_of attrs = marks_with 0 attrs
