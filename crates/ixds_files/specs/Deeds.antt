-- What is done in the folder of targets, in its order.
use Rattle.std.specs.Prelude.{ℕ, List, ◌++◌, Option, option_map}

-- what was found at a path, by its permissions, where a file stood there; an empty file was made at a path, with these
-- permissions, where any were asked for; what a file held stands on the disk; the folder was entered; a file was renamed; the names
-- in the folder that was entered last stand on the disk; and it was tried to remove a file
pub data Deed : Type 0 where
  looked : (path : List ℕ) (found : Option ℕ) → Deed
  created : (path : List ℕ) (mode : Option ℕ) → Deed
  synced : (held : Option (List ℕ)) → Deed
  entered : (dir : List ℕ) → Deed
  renamed : (from to : List ℕ) → Deed
  settled : Deed
  removed : (path : List ℕ) → Deed

-- these deeds more, where the folder tells what it does
abbrev pub did : List Deed → Option (List Deed) → Option (List Deed)
did more deeds = option_map (λ ds. ds ++ more) deeds
