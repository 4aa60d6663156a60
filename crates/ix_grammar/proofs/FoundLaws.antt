-- What elements break, one at a time.
use Rattle.std.proofs.Common.{refl, false, true, [], ◌&&◌, bytes_eq, ◌≡◌, ◌∙◌, ap, sym, rules, ℕ, suc, ◌+◌, ◌<◌, List, ◌∷◌, ◌++◌, Option, Some, None, length, drop, get_or, append_assoc, drop-cons, add-one}
use Rattle.std.proofs.lemmas.Grind.{flat_map-append}
use Rattle.std.specs.Borrow.{Bor}
use Rattle.ix_base.specs.declared.kind.Kind.{Kind}
use Rattle.ix_base.specs.declared.kind.Kind.TheVariants.{Other}
use Rattle.ix_base.specs.declared.place.Place.{Place}
use Rattle.ix_base.specs.declared.rule.Rule.{Rule}
use Rattle.ix_base.specs.declared.rule.Rule.TheVariants.{N1}
use Rattle.ix_base.specs.declared.tree.Element.{Element}
use Rattle.ix_base.specs.declared.tree.Node.{Node, Elem}
use Rattle.ix_base.specs.declared.tree.Node as node
use Rattle.ix_base.specs.declared.tree.Spot.{Spot, roll-Spot}
use Rattle.ix_base.specs.declared.tree.Spot as spot
use Rattle.ix_base.specs.Elements.{Placed, placed, placed_at, path_of, path_above, below, tree_at}
use Rattle.ix_base.specs.ElementRules.{element_rules, found}
use Rattle.ix_base.specs.Kinds.{kind_of}
use Rattle.ix_base.specs.Namespaces.{ix_namespace}
use Rattle.ix_base.specs.Rows.{row}
use Rattle.ix_base.specs.Trees.{Head, Nodes, elem, Tree, tree_of, nodes_of}
use Rattle.ix_grammar.specs.Additions.{found_as, found_at, found_below, found_from}

-- the rules of the table, for an element of its kind
pub found-is : (rules : List Rule) (k : Kind) (place : Place) (e : Placed) → rules ≡ element_rules → k ≡ kind_of e
    → found_as rules k place e ≡ found place e
unfolding found
found-is rules k place e r h = ap (λ rs. found_as rs k place e) r ∙ ap (λ x. found_as element_rules x place e) h

-- an element that is neither marked nor of the namespace of inline elements breaks no rule
pub none_found : (e : Placed) (place : Place) → kind_of e ≡ Other → bytes_eq e.tree.head.name.ns ix_namespace ≡ false → found place e ≡ []
none_found e place k n =
    sym (found-is element_rules Other place e refl (sym k))
    ∙ ap (λ b. row (b && true) (record { place = place; rule = N1 }) ++ []) n

-- an element before other nodes
pub found-elem : (page : ℕ) (above : List Tree) (head : Head) (children rest : Nodes)
    → found_below page above (elem head children rest) ≡ found_from page above (tree_at head children) ++ found_below page above rest
found-elem page above head children rest =
    ap (λ l. found_at page (record { tree = tree_at head children; above = above }) ++ l)
    (flat_map-append (found_at page) (below (tree_at head children ∷ above) children) (below above rest))
    ∙ sym (append_assoc (found_at page (record { tree = tree_at head children; above = above })) (found_below page (tree_at head children ∷ above) children) (found_below page above rest))

-- a spot that is made of an element and of what is above it
pub placed-is : (e : Bor Element) (up : Option (Bor Spot)) → placed (roll-Spot (record { element = e; up = up })) ≡ placed_at (tree_of e.now) (path_above up)
placed-is e None = search (rules, spot.the_lemmas)
placed-is e (Some s) = search (rules, spot.the_lemmas)

offset-is : (e : Element) → (tree_of e).head.offset ≡ e.place.offset
offset-is e = search (rules, node.the_lemmas)

pub children-is : (e : Element) → (tree_of e).children ≡ nodes_of e.children.now
children-is e = search (rules, node.the_lemmas)

-- what an element breaks, and what those below it do
pub found-here : (page : ℕ) (e : Bor Element) (up : Option (Bor Spot))
    → found (record { page = page; offset = e.now.place.offset }) (placed (roll-Spot (record { element = e; up = up })))
    ++ found_below page (path_of (placed (roll-Spot (record { element = e; up = up })))) (nodes_of e.now.children.now)
    ≡ found_from page (path_above up) (tree_of e.now)
found-here page e up =
    ap (λ p. found (record { page = page; offset = e.now.place.offset }) p ++ found_below page (path_of p) (nodes_of e.now.children.now)) (placed-is e up)
    ∙ ap (λ o. found (record { page = page; offset = o }) (placed_at (tree_of e.now) (path_above up)) ++ found_below page (tree_of e.now ∷ path_above up) (nodes_of e.now.children.now)) (sym (offset-is e.now))
    ∙ ap (λ ns. found_at page (placed_at (tree_of e.now) (path_above up)) ++ found_below page (tree_of e.now ∷ path_above up) ns) (sym (children-is e.now))

node-elem : (b : Bor Element) (rest : List Node) → nodes_of (Elem b ∷ rest) ≡ elem (tree_of b.now).head (tree_of b.now).children (nodes_of rest)
node-elem b rest = search (rules, node.the_lemmas)

-- the next node is an element
pub found-next : (page : ℕ) (above : List Tree) (items : List Node) (i : ℕ) (n : Node) (b : Bor Element) → i < length items → n ≡ get_or items i n → n ≡ Elem b
    → found_below page above (nodes_of (drop i items)) ≡ found_from page above (tree_of b.now) ++ found_below page above (nodes_of (drop (i + 1) items))
found-next page above items i n b h e f =
    ap (λ ns. found_below page above (nodes_of ns)) (drop-cons items i n h ∙ ap (λ x. x ∷ drop (suc i) items) (sym e ∙ f))
    ∙ ap (found_below page above) (node-elem b (drop (suc i) items))
    ∙ found-elem page above (tree_of b.now).head (tree_of b.now).children (nodes_of (drop (suc i) items))
    ∙ ap (λ k. found_from page above (tree_of b.now) ++ found_below page above (nodes_of (drop k items))) (sym (add-one i))
