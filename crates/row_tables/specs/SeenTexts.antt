-- How what is seen of a call is written.
use Rattle.std.specs.Prelude.{ℕ, List, [], ◌++◌, ◌==◌, if◌then◌else◌, length, codes, Option, Some, None}

-- a value in quotes, where there is one
abbrev pub quoted : Option (List ℕ) → List ℕ
quoted None = codes "none"
quoted (Some value) = codes "\"" ++ value ++ codes "\""

-- the namespace in braces, where there is one
abbrev pub braced : List ℕ → List ℕ
braced ns = if length ns == 0 then [] else codes "{" ++ ns ++ codes "}"

-- a name as it is written
abbrev pub written_name : List ℕ → List ℕ → List ℕ
written_name ns local = braced ns ++ local
