-- Pages with their trees that break no rule.
use Rattle.std.specs.Prelude.{ℕ, List, All, map}
use Rattle.ix_base.specs.declared.limits.TheConstants.{DEEPEST_ELEMENT}
use Rattle.page_tree.specs.Page.{page}
use Rattle.targets.specs.Breaches.{PagesComeTo}
use Rattle.target_contents.specs.declared.outcome.Outcome.TheVariants.{Whole}
use Rattle.target_contents.specs.declared.outcome.Target.{Target}
use Rattle.fact_trace.specs.Spans.{Source}

-- the trees are those of the bytes
abbrev pub HaveTrees : List Source → Type 0
HaveTrees ps = All (λ p. page p.bytes DEEPEST_ELEMENT p.tree) ps

abbrev pub names_of : List Source → List (List ℕ)
names_of ps = map (λ p. p.name) ps

-- under some base they come to targets, and so to no report
pub record BreakNoRule (ps : List Source) : Type 0 where
  pub base : List ℕ
  pub targets : List Target
  pub come : PagesComeTo base (names_of ps) (map (λ p. p.bytes) ps) (Whole targets)
