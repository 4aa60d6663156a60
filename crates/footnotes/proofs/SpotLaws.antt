-- The tree of a spot.
use Rattle.std.proofs.Common.{◌≡◌, refl}
use Rattle.ix_base.specs.declared.tree.Spot.{Spot, out-Spot}
use Rattle.ix_base.specs.declared.tree.Spot.TheFolds.{fold_out-Spot}
use Rattle.ix_base.specs.Elements.{placed}
use Rattle.ix_base.specs.Trees.{tree_of}

pub tree-is : (s : Spot) → (placed s).tree ≡ tree_of (out-Spot s).element.now
tree-is s = rw fold_out-Spot refl
