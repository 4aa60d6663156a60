-- The first `href` of a tree's elements, in the order of the page.
use Rattle.std.proofs.Common.{◌≡◌, ◌∙◌, ap, sym, refl, ℕ, List, [], ◌∷◌, ◌++◌, Option, Some, None}
use Rattle.std.specs.Option.{option_or}
use Rattle.ix_base.specs.Address.{base_href, first_href}
use Rattle.ix_base.specs.Elements.{Placed, below, elements_of, tree_at}
use Rattle.ix_base.specs.Trees.{Nodes, none, chars, elem, Tree}
use Rattle.scopes.specs.Hrefs.{href_in, href_at}

or-assoc : (a b c : Option (List ℕ)) → option_or (option_or a b) c ≡ option_or a (option_or b c)
or-assoc None b c = refl
or-assoc (Some x) b c = refl

first_href-append : (xs ys : List Placed) → first_href (xs ++ ys) ≡ option_or (first_href xs) (first_href ys)
first_href-append [] ys = refl
first_href-append (x ∷ xs) ys =
    ap (option_or (base_href x.tree.head)) (first_href-append xs ys)
    ∙ sym (or-assoc (base_href x.tree.head) (first_href xs) (first_href ys))

pub first_href-below : (above : List Tree) (nodes : Nodes) → first_href (below above nodes) ≡ href_in nodes
first_href-below above none = refl
first_href-below above (chars text rest) = first_href-below above rest
first_href-below above (elem head children rest) =
    ap (option_or (base_href head)) (first_href-append (below (tree_at head children ∷ above) children) (below above rest)
    ∙ ap (λ h. option_or h (first_href (below above rest))) (first_href-below (tree_at head children ∷ above) children)
    ∙ ap (option_or (href_in children)) (first_href-below above rest))
    ∙ sym (or-assoc (base_href head) (href_in children) (href_in rest))

pub href_of_tree : (t : Tree) → first_href (elements_of t) ≡ href_at t
href_of_tree t = ap (option_or (base_href t.head)) (first_href-below (t ∷ []) t.children)
