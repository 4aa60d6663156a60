-- What is found in a set is found on its pages.
use Rattle.std.proofs.Common.{sym, subst, ℕ, suc, ◌+◌, ◌<◌, ◌≤◌, Bool, true, false, List, [], ◌∷◌, ◌++◌, length, arith}
use Rattle.std.specs.List.{All, Contains, flat_map}
use Rattle.std.specs.Prelude.{Result, Ok, Err}
use Rattle.std.proofs.lemmas.List.Concat.{flat_map-cons}
use Rattle.std.proofs.lemmas.List.Elements.{All-append, All-contains, All-contains_itself, All-cons, All-head, All-nil, All-same, All-tail, All-weaker}
use Rattle.ix_base.specs.declared.breach.Found.{Found}
use Rattle.ix_base.specs.declared.content.Item.{Item}
use Rattle.ix_base.specs.declared.place.Place.{Place}
use Rattle.ix_base.specs.declared.rule.Rule.{Rule}
use Rattle.ix_base.specs.Asks.{asks}
use Rattle.ix_base.specs.ElementRules.{breaks, element_rules, found, found_on}
use Rattle.ix_base.specs.Elements.{Placed, elements_of}
use Rattle.ix_base.specs.LinkRules as rules
use Rattle.ix_base.specs.LinkRules.{broken, found_at, link_rules}
use Rattle.ix_base.specs.LocatedElements.{Located, Paged}
use Rattle.ix_base.specs.Once.{SameMembers}
use Rattle.ix_base.specs.Rows.{row}
use Rattle.ix_base.specs.Trees.{Tree}
use Rattle.target_contents.specs.Faults.{AreOfItems, faults_from, value_fault}

pub all-flat : {X Y : Type 0} (P : X → Type 0) (Q : Y → Type 0) (f : X → List Y) → ((x : X) → P x → All Q (f x)) → (xs : List X) → All P xs → All Q (flat_map f xs)
all-flat P Q f h [] all = All-nil Q
all-flat P Q f h (x ∷ xs) all =
    subst (λ ys. All Q ys) (sym (flat_map-cons f x xs))
    (All-append Q (f x) (flat_map f xs) (h x (All-head P x xs all)) (all-flat P Q f h xs (All-tail P x xs all)))

module _ (m : ℕ) where
  abbrev pub IsBelow : Found → Type 0
  IsBelow f = f.place.page < m

  row-below : (b : Bool) (f : Found) → f.place.page < m → All IsBelow (row b f)
  row-below true f h = All-cons IsBelow f [] h (All-nil IsBelow)
  row-below false f h = All-nil IsBelow

  any : {X : Type 0} (xs : List X) → All (λ (x : X). Unit {0}) xs
  any [] = All-nil (λ x. Unit {0})
  any (x ∷ xs) = All-cons (λ x. Unit {0}) x xs tt (any xs)

  found-below : (place : Place) (e : Placed) → place.page < m → All IsBelow (found place e)
  unfolding found
  found-below place e h =
      all-flat (λ (r : Rule). Unit {0}) IsBelow (λ (r : Rule). row (breaks e r) (record { place = place; rule = r }))
      (λ r u. row-below (breaks e r) (record { place = place; rule = r }) h) element_rules (any element_rules)

  on-below : (n : ℕ) (t : Tree) → n < m → All IsBelow (found_on n t)
  on-below n t h =
      all-flat (λ (e : Placed). Unit {0}) IsBelow (λ (e : Placed). found (record { page = n; offset = e.tree.head.offset }) e)
      (λ e u. found-below (record { page = n; offset = e.tree.head.offset }) e h) (elements_of t) (any (elements_of t))

  -- the rules of elements that so many pages break are broken on these pages
  pub faults-below : (n : ℕ) (pages : List Paged) → n + length pages ≤ m → All (λ (f : Found). f.place.page < m) (faults_from n pages)
  faults-below n [] h = All-nil IsBelow
  faults-below n (p ∷ pages) h =
      All-append IsBelow (found_on n p.tree) (faults_from (suc n) pages) (on-below n p.tree (omega arith)) (faults-below (suc n) pages (omega arith))

  abbrev On : Located → Type 0
  On e = e.page < m

  pub broken-below : (bases : Located → List ℕ) (es : List Located) → All (λ (e : Located). e.page < m) es
      → All (λ (f : Found). f.place.page < m) (broken bases es)
  broken-below bases es h =
      all-flat (λ (r : Rule). Unit {0}) IsBelow (λ r. flat_map (λ e. row (rules.breaks bases (asks es) e r) (found_at e r)) es)
      (λ r u. all-flat On IsBelow (λ e. row (rules.breaks bases (asks es) e r) (found_at e r))
      (λ e p. row-below (rules.breaks bases (asks es) e r) (found_at e r) p) es h) link_rules (any link_rules)

  -- what has the same members is found on the same pages
  pub same-below : (xs ys : List Found) → SameMembers xs ys → All (λ (f : Found). f.place.page < m) ys → All (λ (f : Found). f.place.page < m) xs
  same-below xs ys same h =
      All-weaker (Contains xs) IsBelow (λ f at. All-contains IsBelow ys f h (same.there f at)) xs (All-contains_itself xs)

  fault-below : (e : Located) (r : Result Item Rule) → e.page < m → All IsBelow (value_fault e r)
  fault-below e (Ok i) h = All-nil IsBelow
  fault-below e (Err r) h = All-cons IsBelow (found_at e r) [] h (All-nil IsBelow)

  pub values-below : (Says : Located → Result Item Rule → Type 0) (es : List Located) (more : List Found) → All (λ (e : Located). e.page < m) es
      → AreOfItems Says es more → All (λ (f : Found). f.place.page < m) more
  values-below Says [] more h are = All-same IsBelow more [] are (All-nil IsBelow)
  values-below Says (e ∷ es) more h are =
      All-same IsBelow more (value_fault e are.0 ++ are.2.0) are.2.2
      (All-append IsBelow (value_fault e are.0) are.2.0 (fault-below e are.0 (All-head On e es h)) (values-below Says es are.2.0 (All-tail On e es h) are.2.1))
