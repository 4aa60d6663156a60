use Rattle.std.proofs.Common.{◌≡◌, ◌↔◌, List, rules, subst, sym}
use Rattle.ix_base.specs.Elements.{path_above, placed}
use Rattle.ix_base.specs.Trees.{Tree}
use Rattle.ix_base.specs.declared.tree.Spot.{Spot, out-Spot}
use Rattle.ix_base.specs.declared.tree.Spot as spots
use Rattle.continuations.specs.InnerElements.{AnyOf}
use Rattle.continuations.proofs.inside.is_inner.Goals as goal

above-is : (s : Spot) → (placed s).above ≡ path_above (out-Spot s).up
above-is s = search (rules, spots.the_lemmas)

any-same : (P : Tree → Type 0) (xs ys : List Tree) → xs ≡ ys → AnyOf P xs ↔ AnyOf P ys
any-same P xs ys e = (subst (AnyOf P) e, subst (AnyOf P) (sym e))

pub loop-up-init : goal.loop-up-init
loop-up-init c = any-same _ _ _ (above-is c.args.spot.now)
