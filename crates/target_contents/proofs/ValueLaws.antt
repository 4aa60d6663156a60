-- The rules of values that items break, item by item.
use Rattle.std.proofs.Common.{◌≡◌, ◌∙◌, List, [], ◌∷◌, ◌++◌, ap, refl, subst, sym, append_assoc, append-nil, ⊎_elim}
use Rattle.std.specs.List.{Contains}
use Rattle.std.specs.Prelude.{Option, Result, Ok, Err}
use Rattle.ix_base.proofs.OnceLemmas.{Contains-nil, Contains-cases}
use Rattle.ix_base.specs.declared.breach.Found.{Found}
use Rattle.ix_base.specs.declared.content.Item.{Item}
use Rattle.ix_base.specs.declared.rule.Rule.{Rule}
use Rattle.ix_base.specs.LocatedElements.{Located}
use Rattle.facts.specs.Verdicts.{rule_said}
use Rattle.target_contents.specs.Faults.{AreOfItems, fault_by, value_fault}
use Rattle.target_contents.proofs.FitLaws.{both-none}

-- one item
pub value-one : (Says : Located → Result Item Rule → Type 0) (e : Located) (r : Result Item Rule) → Says e r → AreOfItems Says (e ∷ []) (value_fault e r)
value-one Says e r s = (r, s, ([], refl, sym (append-nil (value_fault e r))))

-- some more items
pub value-append : (Says : Located → Result Item Rule → Type 0) (es more : List Located) (found rest : List Found)
    → AreOfItems Says es found → AreOfItems Says more rest → AreOfItems Says (es ++ more) (found ++ rest)
value-append Says [] more found rest h g = subst (AreOfItems Says more) (sym (ap (λ (xs : List Found). xs ++ rest) h)) g
value-append Says (x ∷ es) more found rest h g = (
  h.0,
  h.1,
  (
    h.2.0 ++ rest,
    value-append Says es more h.2.0 rest h.2.1 g,
    ap (λ (xs : List Found). xs ++ rest) h.2.2 ∙ append_assoc (value_fault x h.0) h.2.0 rest,
  ),
)

fault-none : (e : Located) (r : Result Item Rule) → value_fault e r ≡ [] → (i : Item) × (r ≡ Ok i)
fault-none e (Ok i) h = (i, refl)
fault-none e (Err r) h = absurd (cc)

-- where no rule of values is broken, each item says something
pub all-say : (Says : Located → Result Item Rule → Type 0) (es : List Located) (found : List Found) → AreOfItems Says es found → found ≡ []
    → (e : Located) → Contains es e → (i : Item) × Says e (Ok i)
all-say Says [] found h none e at = absurd (Contains-nil e at)
all-say Says (x ∷ es) found h none e at =
    let both = both-none (value_fault x h.0) h.2.0 (sym h.2.2 ∙ none) in
    ⊎_elim
    (λ (same : x ≡ e). let said = fault-none x h.0 both.0 in (said.0, subst (λ y. Says y (Ok said.0)) same (subst (Says x) said.1 h.1)))
    (λ later. all-say Says es h.2.0 h.2.1 both.1 e later) (Contains-cases x es e at)

-- what an item says, with the rule that is added
pub value-added : (Says : Result Item Rule → Type 0) (e : Located) (o : Option Rule) (found more : List Found)
    → (r : Result Item Rule) × Says r × (rule_said r ≡ o) → more ≡ found ++ fault_by e o
    → (r : Result Item Rule) × Says r × (more ≡ found ++ value_fault e r)
value-added Says e o found more said n = (said.0, said.1, n ∙ ap (λ (k : Option Rule). found ++ fault_by e k) (sym said.2))
