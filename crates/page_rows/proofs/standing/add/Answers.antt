use Rattle.ix_base.specs.declared.limits.TheConstants.{DEEPEST_ELEMENT}
use Rattle.std.proofs.Common.{ℕ, subst, sym}
use Rattle.ix_base.specs.Sound.{IsSoundRoot}
use Rattle.page_rows.proofs.standing.add.Goals as goal

pub add_page-requires : goal.add_page-requires
add_page-requires c = subst (λ (number : ℕ). IsSoundRoot c.in_ok-root.root.now number DEEPEST_ELEMENT) (sym c.requires) c.in_ok-root.ensures
