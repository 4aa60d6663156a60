-- From what was found of values to what a set comes to.
use Rattle.std.proofs.Common.{◌≡◌, ℕ, List, [], inr, subst}
use Rattle.std.specs.List.{filter}
use Rattle.ix_base.specs.Asks.{asks}
use Rattle.ix_base.specs.declared.breach.Found.{Found}
use Rattle.ix_base.specs.LocatedElements.{Located, base_in, is_item}
use Rattle.facts.specs.ItemValue.{IsItem}
use Rattle.target_contents.specs.declared.outcome.Outcome.{Outcome}
use Rattle.target_contents.specs.Faults.{AreOfItems}
use Rattle.target_contents.specs.LinkedSets.{BasedElements}
use Rattle.target_contents.specs.PageSet.{PageSet, base_at, elements, page_bases}
use Rattle.target_contents.specs.SetOutcomes.{AreAllTargets, ComesOfValues}

-- a set with these elements and bases, whose values break no rule, comes to its targets
pub values-come : (s : PageSet) (b : BasedElements) (found : List Found) (o : Outcome) → b.elements ≡ elements s → b.bases ≡ page_bases s
    → AreOfItems (IsItem (base_in b.bases) (asks b.elements)) (filter is_item b.elements) found → found ≡ []
    → AreAllTargets (base_in b.bases) b.elements o → ComesOfValues s o
values-come s b found o same bases are none all = (
  found,
  subst (λ (es : List Located). AreOfItems (IsItem (base_at s) (asks es)) (filter is_item es) found) same
      (subst (λ (ns : List (List ℕ)). AreOfItems (IsItem (base_in ns) (asks b.elements)) (filter is_item b.elements) found) bases are),
  inr (
    none,
    subst (λ (es : List Located). AreAllTargets (base_at s) es o) same
        (subst (λ (ns : List (List ℕ)). AreAllTargets (base_in ns) b.elements o) bases all),
  ),
)
