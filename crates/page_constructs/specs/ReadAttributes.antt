-- What the code has read, as its definitions say it.
use Rattle.std.specs.Prelude.{ℕ, Bool, List, map}
use Rattle.page_constructs.specs.Tokens as tokens
use Rattle.page_constructs.specs.Model.{attribute_of}
use Rattle.page_constructs.specs.declared.token.Attribute.{Attribute}
use denote.Ref.{Bor}

-- an attribute, and what is behind it
abbrev pub attribute_and_more : Attribute × Bor (List ℕ) → tokens.Attribute × List ℕ
attribute_and_more r = (attribute_of r.0, r.1.now)

-- attributes that were collected, and whether a `/` ends them
abbrev pub attributes_and_end : List Attribute → Bool → List tokens.Attribute × Bool
attributes_and_end attrs ends = (map attribute_of attrs, ends)
