-- A page in any number of pieces.
use Rattle.std.specs.Prelude.{ℕ, List, [], ◌∷◌, ◌++◌}
use Rattle.page_text.specs.declared.Mark.{Mark}
use Rattle.page_text.specs.Model.{Reading, after, due}

-- the bytes of all pieces
unfoldable pub joined : List (List ℕ) → List ℕ
joined [] = []
joined (piece ∷ pieces) = piece ++ joined pieces

-- the reading behind all pieces, one after another
unfoldable pub after_all : Reading → List (List ℕ) → Reading
after_all r [] = r
after_all r (piece ∷ pieces) = after_all (after r piece) pieces

-- the characters that they make certain, one piece after another
unfoldable pub due_all : Reading → List (List ℕ) → List Mark
due_all r [] = []
due_all r (piece ∷ pieces) = due r piece ++ due_all (after r piece) pieces
