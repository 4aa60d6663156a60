-- The rules that a set breaks, class by class.
use Rattle.std.specs.Prelude.{◌≡◌, ℕ, suc, List, [], ◌∷◌, ◌++◌, filter, Option, None, Some, Result}
use Rattle.ix_base.specs.declared.breach.Found.{Found}
use Rattle.ix_base.specs.declared.content.Item.{Item}
use Rattle.ix_base.specs.declared.rule.Rule.{Rule}
use Rattle.ix_base.specs.declared.rule.Rule.TheVariants as rule
use Rattle.ix_base.specs.Asks.{Asks}
use Rattle.ix_base.specs.ElementRules.{found_on}
use Rattle.ix_base.specs.LinkRules.{broken, broken_at, found_at, has_two_addresses}
use Rattle.ix_base.specs.LocatedElements.{Located, Paged, is_item}
use Rattle.ix_base.specs.Rows.{row}
use Rattle.facts.specs.ItemValue.{IsItem}
use Rattle.facts.specs.Verdicts.{rule_said}
use Rattle.target_contents.specs.PageSet.{PageSet, asked, base_at, elements}

-- the rules of elements that pages break, of which the first has this number
abbrev pub faults_from : ℕ → List Paged → List Found
faults_from n [] = []
faults_from n (p ∷ pages) = found_on n p.tree ++ faults_from (suc n) pages

abbrev pub element_faults : PageSet → List Found
element_faults s = faults_from 0 s.pages

-- what an element misses of contexts and units
abbrev pub refs_at : Asks Located → Located → List Found
refs_at a e = broken_at a rule.L2 e ++ broken_at a rule.L3 e

-- a role or an arcrole that has two addresses
abbrev pub redirected_at : (Located → List ℕ) → Asks Located → Located → List Found
redirected_at bases a e = row (has_two_addresses bases a e) (found_at e rule.L17)

-- the rules on links that a set breaks
abbrev pub link_faults : PageSet → List Found
link_faults s = broken (base_at s) (elements s)

abbrev pub fault_by : Located → Option Rule → List Found
fault_by e None = []
fault_by e (Some r) = found_at e r ∷ []

-- the rule of values that an item breaks, by what it says
abbrev pub value_fault : Located → Result Item Rule → List Found
value_fault e r = fault_by e (rule_said r)

-- these are the rules of values that these items break
abbrev pub AreOfItems : (Located → Result Item Rule → Type 0) → List Located → List Found → Type 0
AreOfItems Says [] found = found ≡ []
AreOfItems Says (e ∷ es) found =
    (r : Result Item Rule) × Says e r × ((rest : List Found) × AreOfItems Says es rest × (found ≡ value_fault e r ++ rest))

-- these are the rules of values that a set breaks, in which no other rule is broken
abbrev pub AreValueFaults : PageSet → List Found → Type 0
AreValueFaults s found = AreOfItems (IsItem (base_at s) (asked s)) (filter is_item (elements s)) found
