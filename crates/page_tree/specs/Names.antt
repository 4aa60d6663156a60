-- What an element is named in its scope, and an attribute without a prefix.
use Rattle.std.specs.Prelude.{◌≡◌, ℕ, List, []}
use Rattle.ix_base.specs.Scope.{element_name}
use Rattle.ix_base.specs.Spaces.{Space, space_of, spaces_bound}
use Rattle.ix_base.specs.Trees.{bindings_in, named}
use Rattle.page_tree.specs.Expansions.{is_unknown_prefix}
use Rattle.page_tree.specs.Spaces.{IsFrom}
use Rattle.page_tree.specs.Tags.{is_unbound}
use Rattle.ix_base.specs.declared.tree.Name.{Name}
use Rattle.page_tree.specs.declared.names.ElementName.{ElementName}

-- the name, its prefix and its namespace are those of this written name
pub record IsNamed (n : ElementName) (written : List ℕ) : Type 0 where
  pub name : named n.name ≡ element_name (bindings_in n.scope) written
  pub prefix : is_unknown_prefix n.prefix ≡ is_unbound (bindings_in n.scope) written
  pub space : IsFrom (spaces_bound n.scope) (space_of n.name)

-- the name is in no namespace and has this local part
pub record IsUnbound (n : Name) (local : List ℕ) : Type 0 where
  pub name : named n ≡ record { ns = []; local = local }
  pub space : (around : List Space) → IsFrom around (space_of n)

-- both are one name, in one namespace with one number
pub record IsSameName (a b : Name) : Type 0 where
  pub name : named a ≡ named b
  pub space : space_of a ≡ space_of b
