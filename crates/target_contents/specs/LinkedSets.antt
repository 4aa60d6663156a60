-- A set whose links break no rule, with what was made of them.
use Rattle.std.specs.Coded.{Coded, code_by, coded×, coded_ℕ, coded_list}
use Rattle.std.specs.Prelude.{◌≡◌, ℕ, ◌<◌, true, List, [], Contains, length, All, Some, Err, refl}
use Rattle.ix_base.specs.declared.content.Item.{Item}
use Rattle.ix_base.specs.declared.rule.Rule.{Rule}
use Rattle.ix_base.specs.declared.rule.Rule.TheVariants.{L9}
use Rattle.ix_base.specs.Asks.{asks}
use Rattle.ix_base.specs.LocatedElements.{Located, base_in, is_item, same_place}
use Rattle.ix_base.specs.LinkRules.{breaking}
use Rattle.ix_base.specs.Membership.{owner}
use Rattle.continuations.specs.Model.{AreChainsOf}
use Rattle.facts.specs.ItemValue.{IsItem}
use Rattle.footnotes.specs.Model.{AreRelationsOf}
use Rattle.id_table.specs.Model.{AreChosen}
use Rattle.id_table.specs.ModelCodes.{located_code}
use Rattle.tuples.specs.Model.{AreMembersOf}
use Rattle.target_contents.specs.Contents.{SaysItem}
use Rattle.target_contents.specs.declared.links.Linked.{Linked}
use Rattle.target_contents.specs.Named.{AreNamed}
use Rattle.target_contents.specs.RoleAddresses.{SeesAll}

abbrev pub all_of : Linked → List Located
all_of l = l.index.now.spots

abbrev pub bases_of : Linked → List (List ℕ)
bases_of l = l.bases.now.pages

-- no two elements stand at one place
abbrev pub AreApart : List Located → Type 0
AreApart es = (x y : Located) → Contains es x → Contains es y → same_place x y ≡ true → x ≡ y

-- the owner of each is one of them
abbrev pub AreOwned : List Located → Type 0
AreOwned es = (e o : Located) → Contains es e → owner (asks es) e ≡ Some o → Contains es o

-- the chains, the members and the relations are those of the elements, which are apart, and of pages that have bases, what was chosen for
-- ids is what the elements ask for, and the ids are those that items name
pub record IsLinked (l : Linked) : Type 0 where
  pub chains : AreChainsOf l.chains (all_of l)
  pub members : AreMembersOf l.members (all_of l)
  pub relations : AreRelationsOf l.relations (all_of l)
  pub seen_roles : SeesAll (base_in (bases_of l)) (all_of l) l.seen_roles
  pub apart : AreApart (all_of l)
  pub owned : AreOwned (all_of l)
  pub chosen : AreChosen l.index.now
  pub named : AreNamed (all_of l) l.named
  pub pages : All (λ e. e.page < length (bases_of l)) (all_of l)

-- what contracts see of the set: its elements, and the bases of their pages
pub record BasedElements : Type 0 where
  pub elements : List Located
  pub bases : List (List ℕ)

-- a code by which proofs tell them apart
abbrev pub based_code : Coded BasedElements
based_code = code_by (List Located × List (List ℕ)) (coded× (coded_list located_code) (coded_list (coded_list coded_ℕ)))
    (λ b. (b.elements, b.bases)) (λ p. record { elements = p.0; bases = p.1 }) (λ _. refl)

abbrev pub based : Linked → BasedElements
based l = record { elements = all_of l; bases = bases_of l }

-- an item says this
abbrev pub SaysIn : BasedElements → Located → Item → Type 0
SaysIn b = SaysItem (base_in b.bases) b.elements

-- no item breaks a rule of values
abbrev pub IsValued : BasedElements → Type 0
IsValued b = (e : Located) → Contains b.elements e → is_item e ≡ true → (rule : Rule) → IsItem (base_in b.bases) (asks b.elements) e (Err rule) → ⊥

-- no tuple has too many owners above it
abbrev pub IsShallow : BasedElements → Type 0
IsShallow b = breaking L9 b.elements ≡ []
