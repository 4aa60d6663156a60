-- Sets that break no rule of elements and none on links, and what is kept of their contents.
use Rattle.std.specs.Prelude.{◌≡◌, [], All}
use Rattle.ix_base.specs.declared.limits.TheConstants.{DEEPEST_ELEMENT}
use Rattle.ix_base.specs.Sound.{IsSoundTree}
use Rattle.instance_out.specs.Proper.{Proper}
use Rattle.ix_base.specs.PlainContents.{said_of}
use Rattle.target_contents.specs.declared.outcome.Outcome.{Outcome}
use Rattle.target_contents.specs.declared.outcome.Outcome.TheVariants.{Broken, Whole}
use Rattle.target_contents.specs.Faults.{element_faults, link_faults}
use Rattle.target_contents.specs.PageSet.{PageSet}

-- its pages are sound, and break no rule of elements and none on links
pub record IsClean (s : PageSet) : Type 0 where
  pub sound : All (λ p. IsSoundTree p.tree DEEPEST_ELEMENT) s.pages
  pub elements : element_faults s ≡ []
  pub links : link_faults s ≡ []

-- each content is proper
abbrev pub AreProper : Outcome → Type 0
AreProper (Broken report) = Unit {0}
AreProper (Whole targets) = All (λ t. Proper (said_of t.content)) targets
