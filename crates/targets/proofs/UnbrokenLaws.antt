-- What stands of the elements of a clean set.
use Rattle.std.proofs.Common.{◌≡◌, Some, arith, false, refl, true, []}
use Rattle.std.specs.List.{Contains, flat_map}
use Rattle.ix_base.specs.declared.rule.Rule.{Rule}
use Rattle.ix_base.specs.declared.rule.Rule.TheVariants as rule
use Rattle.ix_base.specs.Asks.{asks}
use Rattle.ix_base.specs.ElementRules as element
use Rattle.ix_base.specs.LinkRules.{breaking, breaks, found_at, link_rules}
use Rattle.ix_base.specs.LocatedElements.{Located, same_place}
use Rattle.ix_base.specs.Membership.{owner}
use Rattle.ix_base.specs.Rows.{row}
use Rattle.targets.specs.ValidSets.{IsClean}
use Rattle.target_contents.specs.PageSet.{PageSet, base_at, elements}
use Rattle.targets.proofs.AboveLaws.{owner_marked}
use Rattle.target_contents.proofs.FitLaws.{flat-none, none-broken, row-none}
use Rattle.targets.proofs.PlaceLaws.{apart}

-- no element breaks a rule on links
pub link-unbroken : (s : PageSet) → IsClean s → (r : Rule) → Contains link_rules r → (e : Located) → Contains (elements s) e
    → breaks (base_at s) (asks (elements s)) e r ≡ false
link-unbroken s clean r which e at =
    let es = elements s in
    row-none (breaks (base_at s) (asks es) e r) (found_at e r)
    (flat-none (λ x. row (breaks (base_at s) (asks es) x r) (found_at x r)) es
    (flat-none (λ q. flat_map (λ x. row (breaks (base_at s) (asks es) x q) (found_at x q)) es) link_rules clean.links r which) e at)

-- none breaks a rule of elements
pub element-unbroken : (s : PageSet) → IsClean s → (r : Rule) → Contains element.element_rules r → (e : Located) → Contains (elements s) e
    → element.breaks e.placed r ≡ false
element-unbroken s clean r which e at = none-broken 0 s.pages clean.elements e at r which

-- no tuple has too many owners
pub none-too-deep : (s : PageSet) → IsClean s → breaking rule.L9 (elements s) ≡ []
none-too-deep s clean =
    let es = elements s in
    flat-none (λ q. flat_map (λ x. row (breaks (base_at s) (asks es) x q) (found_at x q)) es) link_rules clean.links rule.L9 (8, omega arith, refl)

pub elements-apart : (s : PageSet) → IsClean s → (x y : Located) → Contains (elements s) x → Contains (elements s) y → same_place x y ≡ true → x ≡ y
elements-apart s clean = apart s.pages clean.sound

pub elements-owned : (s : PageSet) → (e o : Located) → Contains (elements s) e → owner (asks (elements s)) e ≡ Some o → Contains (elements s) o
elements-owned s = owner_marked s.pages
