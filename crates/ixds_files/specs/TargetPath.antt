-- Where the file of a target lies.
use Rattle.std.specs.Prelude.{◌≡◌, ℕ, zero, suc, ◌<◌, List, [], ◌∷◌, ◌++◌, codes}
use Rattle.std.specs.Fmt.{decimal}

-- `-T` for the target T, and nothing for the default target
abbrev pub target_mark : List ℕ → List ℕ
target_mark [] = []
target_mark (c ∷ cs) = codes "-" ++ (c ∷ cs)

unfoldable pub target_path : List ℕ → List ℕ → List ℕ
target_path dir target = dir ++ (codes "/instance" ++ (target_mark target ++ codes ".xbrl"))

-- `-N` for the number N, and nothing for 0
abbrev pub number_mark : ℕ → List ℕ
number_mark zero = []
number_mark (suc n) = codes "-" ++ decimal (suc n)

-- the paths at which a target may be written until it is whole, by their numbers: beside its place, in the same folder
unfoldable pub part_path : List ℕ → ℕ → List ℕ
part_path place number = place ++ (codes ".part" ++ number_mark number)

-- one of the hundred that are tried
abbrev pub IsPartPath : List ℕ → List ℕ → Type 0
IsPartPath place path = (number : ℕ) × (number < 100) × (path ≡ part_path place number)
