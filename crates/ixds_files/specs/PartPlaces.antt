-- Where the part of the target begun last lies.
use Rattle.std.specs.Prelude.{ℕ, List, Option, None, Some}
use Rattle.ixds_files.specs.declared.parts.Part.{Part}

-- its path, if it was neither removed nor placed
abbrev pub lying : {F : Type 0} → Option (Part F) → Option (List ℕ)
lying None = None
lying (Some part) = part.beside
