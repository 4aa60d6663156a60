-- Reading the elements of a name among some nodes, from one of them on.
use Rattle.std.proofs.Common.{◌≡◌, ◌∙◌, ◌+◌, ◌<◌, ℕ, Bool, true, false, ap, sym, List, [], ◌∷◌, ◌++◌, drop, get_or, length, Option, Some, None, option_map, if◌then◌else◌}
use Rattle.std.specs.Borrow.{Bor}
use Rattle.ix_base.specs.declared.tree.Element.{Element}
use Rattle.ix_base.specs.declared.tree.Node.{Node}
use Rattle.ix_base.specs.declared.tree.Node.TheVariants.{Chars, Elem}
use Rattle.ix_base.specs.ElementContent.{is_of, named_in}
use Rattle.ix_base.specs.Steps.{◌>>=◌, each}
use Rattle.ix_base.specs.Trees.{Tree, named, nodes_of, tree_of}
use Rattle.xbrl_parts.proofs.EachLaws.{each_put}
use Rattle.instance_tree.proofs.NodeLaws.{chars-front, elem-front, name-is}

module _ {D : Type 0} (f : Tree → Option D) (ns local : List ℕ) (nodes : List Node) (i : ℕ) (n : Node) (there : i < length nodes)
    (is : n ≡ get_or nodes i n) where
  abbrev pub those : ℕ → List Tree
  those k = named_in ns local (nodes_of (drop k nodes))

  -- a text is passed by
  pub named-chars : (t : Bor (List ℕ)) → n ≡ Chars t → those (i + 1) ≡ those i
  named-chars t e = sym (ap (named_in ns local) (chars-front nodes i n t there is e))

  at-element : (e : Bor Element) → n ≡ Elem e → (b : Bool) → b ≡ is_of (named e.now.name.now) ns local
      → those i ≡ (if b then tree_of e.now ∷ those (i + 1) else those (i + 1))
  at-element e is-elem b same =
      ap (named_in ns local) (elem-front nodes i n e there is is-elem)
      ∙ ap (λ (t : Bool). if t then tree_of e.now ∷ those (i + 1) else those (i + 1))
      (sym (same ∙ ap (λ name. is_of name ns local) (name-is e.now)))

  -- an element of another name is passed by
  pub named-other : (e : Bor Element) → n ≡ Elem e → (b : Bool) → b ≡ is_of (named e.now.name.now) ns local → b ≡ false → those (i + 1) ≡ those i
  named-other e is-elem b same other =
      sym (at-element e is-elem b same ∙ ap (λ (t : Bool). if t then tree_of e.now ∷ those (i + 1) else those (i + 1)) other)

  at-named : (e : Bor Element) → n ≡ Elem e → (b : Bool) → b ≡ is_of (named e.now.name.now) ns local → b ≡ true
      → each f (those i) ≡ (f (tree_of e.now) >>= λ y. each f (those (i + 1)) >>= λ ys. Some (y ∷ ys))
  at-named e is-elem b same one = ap (each f)
      (at-element e is-elem b same ∙ ap (λ (t : Bool). if t then tree_of e.now ∷ those (i + 1) else those (i + 1)) one)

  -- an element of the name isn't read
  pub named-unread : (e : Bor Element) → n ≡ Elem e → (b : Bool) → b ≡ is_of (named e.now.name.now) ns local → b ≡ true → None ≡ f (tree_of e.now)
      → each f (those i) ≡ None
  named-unread e is-elem b same one none =
      at-named e is-elem b same one ∙ ap (λ o. o >>= λ y. each f (those (i + 1)) >>= λ ys. Some (y ∷ ys)) (sym none)

  -- an element of the name is read
  pub named-read : (e : Bor Element) → n ≡ Elem e → (b : Bool) → b ≡ is_of (named e.now.name.now) ns local → b ≡ true
      → (part : D) → Some part ≡ f (tree_of e.now) → (old new : List D) → new ≡ old ++ part ∷ []
      → option_map (λ ps. new ++ ps) (each f (those (i + 1))) ≡ option_map (λ ps. old ++ ps) (each f (those i))
  named-read e is-elem b same one part some old new more =
      ap (λ ds. option_map (λ ps. ds ++ ps) (each f (those (i + 1)))) more
      ∙ sym (each_put old part (each f (those (i + 1))))
      ∙ ap (λ o. option_map (λ ps. old ++ ps) (o >>= λ y. each f (those (i + 1)) >>= λ ys. Some (y ∷ ys))) some
      ∙ ap (option_map (λ ps. old ++ ps)) (sym (at-named e is-elem b same one))
