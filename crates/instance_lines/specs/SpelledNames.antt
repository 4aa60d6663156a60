-- Names in the code as they are written.
use Rattle.std.specs.Prelude.{ℕ, List, [], ◌∷◌, ◌++◌, map, Option}
use Rattle.ix_base.specs.Trees.{Bound}
use Rattle.instance_lines.specs.Prefixes.{prefix_in}
use Rattle.instance_lines.specs.declared.spelled.Spelled.{Spelled}

-- a prefix with its colon
abbrev pub with_colon : Bound → Bound
with_colon b = record { prefix = b.prefix ++ 58 ∷ []; ns = b.ns }

-- what names in a namespace start with, if it has a prefix
abbrev pub start_in : List Bound → List ℕ → Option (List ℕ)
start_in bs space = prefix_in (map with_colon bs) space

abbrev pub spelled : Spelled → List ℕ
spelled name = name.start.now ++ name.local.now
