-- What stands around markup, of parts of it.
use Rattle.std.proofs.Common.{◌≡◌, ◌<◌, ◌∷◌, [], ℕ, List, None, Some, flat_map, get_or, length, rules, subst, sym}
use Rattle.std.proofs.lemmas.List.Elements.{All-head}
use Rattle.std.specs.Borrow.{Bor}
use Rattle.std.specs.List.{All}
use Rattle.std.specs.Option.{option_map_or}
use Rattle.std.specs.Prelude.{IfSome}
use Rattle.ix_base.specs.declared.outer.Outer.{Outer}
use Rattle.ix_base.specs.declared.tree.Element.{Element}
use Rattle.ix_base.specs.declared.tree.Name.{Name}
use Rattle.ix_base.specs.declared.tree.Node.{Node}
use Rattle.ix_base.specs.declared.tree.Node.TheVariants.{Elem}
use Rattle.ix_base.specs.declared.tree.Spot as spot
use Rattle.ix_base.specs.declared.tree.Spot.{Spot, out-Spot}
use Rattle.ix_base.specs.Elements.{place_of}
use Rattle.ix_base.specs.Spots.{IsOn, IsOnOnePage, elements_up}
use Rattle.ix_base.specs.Spaces.{AreNumbered, IsOuter, Space, space_of, spaces_in, spaces_of}
use Rattle.ix_base.proofs.OnceLemmas.{Contains-later}
use Rattle.ix_base.proofs.SpaceParts.{IsPart, numbered-part, outer-part, part-children, part-inside, part-name, part-node}
use Rattle.escape_text.specs.Surroundings.{IsWithin}
use Rattle.escape_text.specs.declared.marked_text.Around.{Around}

within-part : (a : Around) (xs ys : List Space) → IsPart xs ys → IsWithin a xs → IsWithin a ys
within-part a xs ys part h = record { inner = λ n. numbered-part xs ys part (h.inner n); outer = outer-part a.outer xs ys part h.outer }

pub within_name : (a : Around) (e : Element) → IsWithin a (spaces_of e) → IsOuter a.outer (space_of e.name.now ∷ [])
within_name a e h = outer-part a.outer (spaces_of e) (space_of e.name.now ∷ []) (part-name e) h.outer

pub within_inside : (a : Around) (e : Element) → IsWithin a (spaces_of e) → IsWithin a (space_of e.name.now ∷ flat_map spaces_in e.children.now)
within_inside a e h = within-part a (spaces_of e) (space_of e.name.now ∷ flat_map spaces_in e.children.now) (part-inside e) h

pub within_children : (a : Around) (e : Element) → IsWithin a (spaces_of e) → IsWithin a (flat_map spaces_in e.children.now)
within_children a e h = within-part a (spaces_of e) (flat_map spaces_in e.children.now) (part-children e) h

pub within_node : (a : Around) (nodes : List Node) (i : ℕ) (d : Node) (e : Bor Element) → i < length nodes → d ≡ get_or nodes i d → d ≡ Elem e
    → IsWithin a (flat_map spaces_in nodes) → IsWithin a (spaces_of e.now)
within_node a nodes i d e l at is h = within-part a (flat_map spaces_in nodes) (spaces_of e.now) (part-node nodes i d e l at is) h

-- the namespace of a name, around what is numbered with it
pub outer_named : (o : Outer) (n : Name) (spaces : List Space) → o.ns.now ≡ n.ns.now → o.number ≡ Some n.number → AreNumbered (space_of n ∷ spaces) → IsOuter o spaces
outer_named o n spaces text number h =
    subst (λ k. IfSome k (λ m. AreNumbered (record { number = m; text = o.ns.now } ∷ spaces))) (sym number)
    (subst (λ t. AreNumbered (record { number = n.number; text = t } ∷ spaces)) (sym text) h)

pub outer_unnumbered : (o : Outer) (spaces : List Space) → o.number ≡ None → IsOuter o spaces
outer_unnumbered o spaces none = subst (λ k. IfSome k (λ m. AreNumbered (record { number = m; text = o.ns.now } ∷ spaces))) (sym none) tt

pub numbered-rest : (s : Space) (spaces : List Space) → AreNumbered (s ∷ spaces) → AreNumbered spaces
numbered-rest s spaces h = numbered-part (s ∷ spaces) spaces (λ x c. Contains-later s spaces x c) h

-- an element on its own page is numbered
elements_up-is : (s : Spot) → elements_up s ≡ (out-Spot s).element.now ∷ option_map_or (λ up. elements_up up.now) (out-Spot s).up []
elements_up-is s = search (rules, spot.the_lemmas)

pub numbered-spot : (s : Spot) → IsOnOnePage s → AreNumbered (spaces_of (out-Spot s).element.now)
numbered-spot s h =
    (All-head (IsOn (place_of s).page) (out-Spot s).element.now (option_map_or (λ up. elements_up up.now) (out-Spot s).up [])
    (subst (All (IsOn (place_of s).page)) (elements_up-is s) h)).spaces

pub within_held : (a : Around) (e : Element) → a.outer.number ≡ None → AreNumbered (spaces_of e) → IsWithin a (flat_map spaces_in e.children.now)
within_held a e none h =
    let below = flat_map spaces_in e.children.now in
    record { inner = λ by. numbered-part (spaces_of e) below (part-children e) h; outer = outer_unnumbered a.outer below none }
