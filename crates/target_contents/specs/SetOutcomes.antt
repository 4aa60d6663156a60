-- What a set of pages comes to.
use Rattle.std.specs.Prelude.{◌≡◌, ◌≢◌, ◌⊎◌, ℕ, List, [], map, All}
use Rattle.ix_base.specs.declared.breach.Found.{Found}
use Rattle.ix_base.specs.Breaches.{named, report_of}
use Rattle.std.specs.List.Sorted.{IsPermutation}
use Rattle.ix_base.specs.LocatedElements.{Located, Paged}
use Rattle.instance_lines.specs.Writable.{IsWritable}
use Rattle.target_contents.specs.declared.outcome.Outcome.{Outcome}
use Rattle.target_contents.specs.declared.outcome.Outcome.TheVariants.{Broken, Whole}
use Rattle.target_contents.specs.declared.outcome.Target.{Target}
use Rattle.target_contents.specs.Contents.{IsContent, target_names}
use Rattle.target_contents.specs.Faults.{AreValueFaults, element_faults, link_faults}
use Rattle.target_contents.specs.PageSet.{PageSet, base_at, elements, names}

-- it is the report of these breaches, which were found on pages of these names
abbrev pub IsReport : List (List ℕ) → List Found → Outcome → Type 0
IsReport names found (Broken report) = report.lines ≡ report_of (map (named names) found)
IsReport names found (Whole targets) = ⊥

-- targets of these names, in order, each with its content
pub record AreTargets (bases : Located → List ℕ) (es : List Located) (due : List (List ℕ)) (targets : List Target) : Type 0 where
  pub names : map (λ t. t.name) targets ≡ due
  pub contents : All (λ t. IsContent bases es t.name t.content) targets

-- it is all targets of some elements, in the byte order of their names
abbrev pub AreAllTargets : (Located → List ℕ) → List Located → Outcome → Type 0
AreAllTargets bases es (Broken report) = ⊥
AreAllTargets bases es (Whole targets) = AreTargets bases es (target_names es) targets

abbrev pub ComesToTargets : PageSet → Outcome → Type 0
ComesToTargets s = AreAllTargets (base_at s) (elements s)

-- the report of these breaches, where there are any, and else something further
abbrev pub FirstOf : List (List ℕ) → List Found → (Outcome → Type 0) → Outcome → Type 0
FirstOf names found Else o = ((found ≢ []) × IsReport names found o) ⊎ ((found ≡ []) × Else o)

-- the rules of values that a set breaks, or else its targets
abbrev pub ComesOfValues : PageSet → Outcome → Type 0
ComesOfValues s o = (found : List Found) × AreValueFaults s found × FirstOf (names s) found (ComesToTargets s) o

-- What a set comes to: the report of the rules of elements that it breaks; where it breaks none, of the rules on links; where it
-- breaks none, of the rules of values; and else its targets.
abbrev pub ComesTo : PageSet → Outcome → Type 0
ComesTo s = FirstOf (names s) (element_faults s) (FirstOf (names s) (link_faults s) (ComesOfValues s))

-- what a set comes to, whatever the order of its pages
abbrev pub ComesToAlways : PageSet → Outcome → Type 0
ComesToAlways s o = (pages : List Paged) → IsPermutation s.pages pages → ComesTo (record { base = s.base; pages = pages }) o

-- each content can be written
abbrev pub CanBeWritten : Outcome → Type 0
CanBeWritten (Broken report) = Unit {0}
CanBeWritten (Whole targets) = All (λ t. IsWritable t.content) targets
