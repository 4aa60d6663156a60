-- Attributes, by name.
use Rattle.std.specs.Prelude.{Bool, ◌&&◌, List, [], ◌∷◌, ℕ, suc, Option, Some, None, if◌then◌else◌, bytes_eq, nat_lt}
use Rattle.ix_base.specs.declared.tree.Attr.{Attr}
use Rattle.ix_base.specs.declared.tree.Name.{Name}

pub record Named : Type 0 where
  pub ns : List ℕ
  pub local : List ℕ

pub record Valued : Type 0 where
  pub name : Named
  pub value : List ℕ

abbrev pub named : Name → Named
named n = record { ns = n.ns.now; local = n.local.now }

abbrev pub valued : Attr → Valued
valued a = record { name = named a.name.now; value = a.value.now }

-- the attribute has this name
abbrev pub is_named : Valued → List ℕ → List ℕ → Bool
is_named a ns local = bytes_eq a.name.ns ns && bytes_eq a.name.local local

-- the value of the attribute of this name
abbrev pub value_of : List Valued → List ℕ → List ℕ → Option (List ℕ)
value_of [] ns local = None
value_of (a ∷ more) ns local = if is_named a ns local then Some a.value else value_of more ns local

-- the index of the first attribute of this name, or their number where none has it
abbrev pub place_named : List Valued → List ℕ → List ℕ → ℕ
place_named [] ns local = 0
place_named (a ∷ more) ns local = if is_named a ns local then 0 else suc (place_named more ns local)

-- the index of the first attribute of this name, as far as 32 bits tell it: from 2^32 - 1 on it is that number
abbrev pub kept_place : List Valued → List ℕ → List ℕ → ℕ
kept_place attrs ns local = if nat_lt (place_named attrs ns local) 4294967295 then place_named attrs ns local else 4294967295
