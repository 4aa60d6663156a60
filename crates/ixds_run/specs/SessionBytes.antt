-- The pages that a session reads, and their bytes.
use Rattle.std.specs.Prelude.{◌≡◌, ℕ, List, [], ◌∷◌, Option, IfSome}
use Rattle.page_session.specs.Course.{AreTold, names_read}
use Rattle.page_session.specs.Script.{script_of}
use Rattle.page_session.specs.declared.script.Script.{Script}
use Rattle.page_session.specs.declared.script.Script.TheVariants.{Good, Bad}

-- the names of the pages that a script reads, in order; a bad one reads none
abbrev pub names_said : Script → List (List ℕ) → List (List ℕ)
names_said (Bad at) bs = []
names_said (Good lines) bs = names_read lines bs

-- the names of the pages to be read: the script of this name and text, and those that it reads
abbrev pub to_read : (script text : List ℕ) → List (List ℕ) → List (List ℕ)
to_read script text bs = script ∷ names_said (script_of text) bs

-- A fact of the text of a script and of the bytes of the first pages that it reads. The source may not tell them; what it tells, they
-- are.
abbrev pub OfScript : (List ℕ → Option (List ℕ)) → (script : List ℕ) → ((text : List ℕ) → List (List ℕ) → Type 0) → Type 0
OfScript page script fact =
    (text : List ℕ) × IfSome (page script) (λ told. told ≡ text)
    × ((bs : List (List ℕ)) × AreTold page (names_said (script_of text) bs) bs × fact text bs)
