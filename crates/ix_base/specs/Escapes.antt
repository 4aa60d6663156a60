-- How characters of texts and of attribute values are written (XML 1.0, sections 2.4 and 3.3.3): each by its reference,
-- where it has one in the table, and else as itself.
use Rattle.std.specs.Prelude.{ℕ, ◌==◌, Bool, is_none, List, [], ◌∷◌, ◌++◌, Option, Some, None, if◌then◌else◌, codes, encode_utf8}

-- what stands behind `&` in the reference of a character of a text
abbrev pub te_ref : ℕ → Option (List ℕ)
te_ref c = if c == 38 then Some (codes "amp;")
    else (if c == 60 then Some (codes "lt;")
    else (if c == 62 then Some (codes "gt;")
    else (if c == 13 then Some (codes "#13;") else None)))

-- the same for a character of an attribute's value
abbrev pub ae_ref : ℕ → Option (List ℕ)
ae_ref c = if c == 34 then Some (codes "quot;")
    else (if c == 9 then Some (codes "#9;")
    else (if c == 10 then Some (codes "#10;") else te_ref c))

-- a character is written as itself
abbrev pub is_own : (ℕ → Option (List ℕ)) → ℕ → Bool
is_own table c = is_none (table c)

-- a character by its reference or as itself, and what follows
abbrev pub put : Option (List ℕ) → ℕ → List ℕ → List ℕ
put None c more = c ∷ more
put (Some reference) c more = 38 ∷ (reference ++ more)

-- characters or bytes, each by its reference in a table or as itself
abbrev pub escaped : (ℕ → Option (List ℕ)) → List ℕ → List ℕ
escaped table [] = []
escaped table (c ∷ cs) = put (table c) c (escaped table cs)

-- a text as it is written
abbrev pub te : List ℕ → List ℕ
te = escaped te_ref

-- an attribute's value as it is written
abbrev pub ae : List ℕ → List ℕ
ae = escaped ae_ref

-- what a character that has this whole reference is written as
abbrev pub written_as : ℕ → Option (List ℕ) → List ℕ
written_as c None = encode_utf8 c
written_as c (Some reference) = reference
