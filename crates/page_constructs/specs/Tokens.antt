-- What constructs mean, once they are of their form.
use Rattle.std.specs.Prelude.{ℕ, Bool, List, Option}

-- an attribute as it is written; a value in which a reference is bad means nothing
pub record Attribute : Type 0 where
  pub name : List ℕ
  pub value : Option (List ℕ)

-- a start tag or an empty-element tag: where it starts, its written name, and its attributes in the order of the tag
pub record Tag : Type 0 where
  pub offset : ℕ
  pub name : List ℕ
  pub attrs : List Attribute

-- `refer` has the bytes of its character, where the reference is a good one; `silent` is a comment or an instruction
pub data Token : Type 0 where
  start : (tag : Tag) → Token
  empty : (tag : Tag) → Token
  close : (name : List ℕ) → Token
  words : (text : List ℕ) → Token
  refer : (char : Option (List ℕ)) → Token
  section : (text : List ℕ) → Token
  declaration : (version : List ℕ) → (encoding : Option (List ℕ)) → Token
  doctype : (has_subset : Bool) → Token
  silent : Token
