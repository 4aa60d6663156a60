-- On which page the breaches of a page are.
use Rattle.std.proofs.Common.{ℕ, ◌<◌, Bool, true, false, List, [], ◌∷◌, ◌++◌}
use Rattle.std.specs.List.{All, AllByRecursion, flat_map}
use Rattle.std.proofs.lemmas.List.Elements.{All-from_recursion}
use Rattle.ix_base.specs.declared.place.Place.{Place}
use Rattle.ix_base.specs.Elements.{Placed, elements_of}
use Rattle.ix_base.specs.ElementRules.{breaks, element_rules, found, found_on}
use Rattle.ix_base.specs.Rows.{row}
use Rattle.ix_base.specs.Trees.{Tree}
use Rattle.ix_grammar.specs.Additions.{found_at, place_on}

append-all : {X : Type 0} (P : X → Type 0) (xs ys : List X) → AllByRecursion P xs → AllByRecursion P ys → AllByRecursion P (xs ++ ys)
append-all P [] ys h k = k
append-all P (x ∷ xs) ys h k = (h.0, append-all P xs ys h.1 k)

flat-all : {X Y : Type 0} (P : Y → Type 0) (f : X → List Y) (xs : List X) → ((x : X) → AllByRecursion P (f x)) → AllByRecursion P (flat_map f xs)
flat-all P f [] h = tt
flat-all P f (x ∷ xs) h = append-all P (f x) (flat_map f xs) (h x) (flat-all P f xs h)

row-all : {X : Type 0} (P : X → Type 0) (b : Bool) (x : X) → P x → AllByRecursion P (row b x)
row-all P true x h = (h, tt)
row-all P false x h = tt

found-all : (P : Place → Type 0) (place : Place) (e : Placed) → P place → AllByRecursion (λ f. P f.place) (found place e)
unfolding found
found-all P place e h =
    flat-all (λ f. P f.place) (λ r. row (breaks e r) (record { place = place; rule = r })) element_rules
    (λ r. row-all (λ f. P f.place) (breaks e r) (record { place = place; rule = r }) h)

-- each breach of a page is on the page of its number
pub found_on_page : (page n : ℕ) (t : Tree) → page < n → All (λ f. f.place.page < n) (found_on page t)
found_on_page page n t h =
    All-from_recursion (λ f. f.place.page < n) (found_on page t)
    (flat-all (λ f. f.place.page < n) (found_at page) (elements_of t) (λ e. found-all (λ p. p.page < n) (place_on page e.tree) e h))

-- each breach of an element is on the page of its place
pub found_at_place : (place : Place) (e : Placed) (n : ℕ) → place.page < n → All (λ f. f.place.page < n) (found place e)
found_at_place place e n h = All-from_recursion (λ f. f.place.page < n) (found place e) (found-all (λ p. p.page < n) place e h)
