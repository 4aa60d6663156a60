-- A spot, one level at a time.
use Rattle.std.proofs.Common.{◌≡◌, ℕ, List, ◌∷◌, Option, Some, None, rules, ap, ◌∙◌, sym}
use Rattle.std.specs.Borrow.{Bor}
use Rattle.ix_base.specs.declared.tree.Element.{Element}
use Rattle.ix_base.specs.declared.tree.Spot.{Spot, out-Spot, roll-Spot, roll-out-Spot, the_lemmas}
use Rattle.ix_base.specs.Address.{base_along, joined_if, xml_base}
use Rattle.ix_base.specs.Elements.{placed, path_of, path_above}
use Rattle.ix_base.specs.Trees.{tree_of}

path-roll : (e : Bor Element) (up : Option (Bor Spot))
    → path_of (placed (roll-Spot (record { element = e; up = up }))) ≡ tree_of e.now ∷ path_above up
path-roll e None = search (rules, the_lemmas)
path-roll e (Some s) = search (rules, the_lemmas)

pub path-spot : (s : Spot) → path_of (placed s) ≡ tree_of (out-Spot s).element.now ∷ path_above (out-Spot s).up
path-spot s = ap (λ x. path_of (placed x)) (sym (roll-out-Spot s)) ∙ path-roll (out-Spot s).element (out-Spot s).up

-- the base of a spot's element, from that of what is above it
pub along_spot : (base above : List ℕ) (spot : Option (Bor Spot)) (s : Bor Spot) (text : Option (List ℕ)) → spot ≡ Some s
    → above ≡ base_along base (path_above (out-Spot s.now).up) → text ≡ xml_base (tree_of (out-Spot s.now).element.now).head
    → joined_if above text ≡ base_along base (path_above spot)
along_spot base above spot s text e a x = rw (e, a, x) (sym (ap (base_along base) (path-spot s.now)))
