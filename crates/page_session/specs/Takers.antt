-- What takes a page piece by piece.
use Rattle.std.specs.Prelude.{◌≡◌, ℕ, List}
use Rattle.page_tree.specs.Model.{StandsFor, limit, page_number}
use Rattle.page_tree.specs.declared.builder.TreeBuilder.{TreeBuilder}

-- the builder t is what the builder fresh, which was given nothing, became by these bytes
pub record HasBuilt (fresh : TreeBuilder) (b : List ℕ) (t : TreeBuilder) : Type 0 where
  pub built : StandsFor t b
  pub limit_is : limit t ≡ limit fresh
  pub page_is : page_number t ≡ page_number fresh
