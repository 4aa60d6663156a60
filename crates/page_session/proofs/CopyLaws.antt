-- Nodes that are put together one by one.
use Rattle.std.proofs.Common.{◌≡◌, ◌∙◌, ℕ, suc, ◌<◌, ◌+◌, List, [], ◌∷◌, ◌++◌, All, length, drop, flat_map, ap, append-nil, append_assoc, sym, refl, get_or, add-one, rules}
use Rattle.std.proofs.lemmas.Grind.{flat_map-append}
use Rattle.std.proofs.Math.Seq.{drop-cons}
use Rattle.std.proofs.lemmas.List.Elements.{All-nil, All-cons, All-head, All-tail, All-append, All-same}
use Rattle.std.proofs.lemmas.List.Folds.{flat_map-map}
use Rattle.ix_base.specs.Elements.{pages_in, pages_of}
use Rattle.ix_base.specs.Spaces.{spaces_in}
use Rattle.ix_base.specs.Trees.{Nodes, none, before, nodes_of}
use Rattle.ix_base.specs.declared.tree.Element.{Element}
use Rattle.ix_base.specs.declared.tree.Node.{Node, the_lemmas}
use Rattle.page_tree.specs.Stacks.{AreAll}

-- some nodes put before these
abbrev pub placed : List Node → Nodes → Nodes
placed [] rest = rest
placed (n ∷ ns) rest = before n (placed ns rest)

pub placed-none : (ns : List Node) → placed ns none ≡ nodes_of ns
placed-none [] = refl
placed-none (n ∷ ns) = ap (before n) (placed-none ns)

pub placed-more : (ns : List Node) (n : Node) (rest : Nodes) → placed (ns ++ n ∷ []) rest ≡ placed ns (before n rest)
placed-more [] n rest = refl
placed-more (m ∷ ns) n rest = ap (before m) (placed-more ns n rest)

-- the node at an index, before those after it
pub nodes-at : (ns : List Node) (i : ℕ) (d : Node) → i < length ns → d ≡ get_or ns i d
    → nodes_of (drop i ns) ≡ before d (nodes_of (drop (i + 1) ns))
nodes-at ns i d l e = ap nodes_of (drop-cons ns i d l ∙ ap (λ x. x ∷ drop (suc i) ns) (sym e) ∙ ap (λ k. d ∷ drop k ns) (sym (add-one i)))

-- the copies so far, with the nodes that are left behind them, are the nodes
pub record IsCopied (nodes copies : List Node) (i : ℕ) : Type 0 where
  pub placed_is : placed copies (nodes_of (drop i nodes)) ≡ nodes_of nodes

pub copied-more : (nodes copies more : List Node) (i : ℕ) (d n : Node) → i < length nodes → d ≡ get_or nodes i d
    → IsCopied nodes copies i → ((rest : Nodes) → before n rest ≡ before d rest) → more ≡ copies ++ n ∷ []
    → IsCopied nodes more (i + 1)
copied-more nodes copies more i d n l e h same m = record {
  placed_is = ap (λ xs. placed xs (nodes_of (drop (i + 1) nodes))) m ∙ placed-more copies n (nodes_of (drop (i + 1) nodes))
      ∙ ap (placed copies) (same (nodes_of (drop (i + 1) nodes)) ∙ sym (nodes-at nodes i d l e)) ∙ h.placed_is;
}

-- all of them are copied
pub copied-all : (nodes copies : List Node) (i : ℕ) → drop i nodes ≡ [] → IsCopied nodes copies i → nodes_of copies ≡ nodes_of nodes
copied-all nodes copies i d h = sym (placed-none copies) ∙ ap (λ xs. placed copies (nodes_of xs)) (sym d) ∙ h.placed_is

module _ (page : ℕ) where
  abbrev Is : ℕ → Type 0
  Is p = p ≡ page

  abbrev Has : Node → Type 0
  Has n = AreAll page (pages_in n)

  pub all-pages : (ns : List Node) → All Has ns → AreAll page (flat_map pages_in ns)
  all-pages [] h = All-nil Is
  all-pages (n ∷ ns) h = All-append Is (pages_in n) (flat_map pages_in ns) (All-head Has n ns h) (all-pages ns (All-tail Has n ns h))

pages-Element : (e : Element) → pages_of e ≡ e.place.page ∷ flat_map pages_in e.children.now
pages-Element e = search (rules, the_lemmas, flat_map-map)

pub element-pages : (page : ℕ) (e : Element) → e.place.page ≡ page → All (λ n. AreAll page (pages_in n)) e.children.now → AreAll page (pages_of e)
element-pages page e p h =
    let own = All-cons (λ q. q ≡ page) e.place.page (flat_map pages_in e.children.now) p (all-pages page e.children.now h) in
    rw (pages-Element e) own

pub all-more : (page : ℕ) (copies more : List Node) (n : Node) → All (λ m. AreAll page (pages_in m)) copies → AreAll page (pages_in n)
    → more ≡ copies ++ n ∷ [] → All (λ m. AreAll page (pages_in m)) more
all-more page copies more n h own m = All-same (Has page) more (copies ++ n ∷ []) m
    (All-append (Has page) copies (n ∷ []) h (All-cons (Has page) n [] own (All-nil (Has page))))

-- the namespaces of the copies so far and of what is left
pub spaces-more : (nodes copies more : List Node) (i : ℕ) (d n : Node) → i < length nodes → d ≡ get_or nodes i d → spaces_in n ≡ spaces_in d → more ≡ copies ++ n ∷ []
    → flat_map spaces_in copies ++ flat_map spaces_in (drop i nodes) ≡ flat_map spaces_in nodes
    → flat_map spaces_in more ++ flat_map spaces_in (drop (i + 1) nodes) ≡ flat_map spaces_in nodes
spaces-more nodes copies more i d n l e same m h =
    let left = flat_map spaces_in (drop (i + 1) nodes) in
    let next : flat_map spaces_in (drop i nodes) ≡ spaces_in d ++ left =
    ap (flat_map spaces_in) (drop-cons nodes i d l ∙ ap (λ x. x ∷ drop (suc i) nodes) (sym e) ∙ ap (λ k. d ∷ drop k nodes) (sym (add-one i))) in
    ap (λ x. flat_map spaces_in x ++ left) m
    ∙ ap (λ x. x ++ left) (flat_map-append spaces_in copies (n ∷ []) ∙ ap (λ x. flat_map spaces_in copies ++ x) (append-nil (spaces_in n) ∙ same))
    ∙ append_assoc (flat_map spaces_in copies) (spaces_in d) left
    ∙ ap (λ x. flat_map spaces_in copies ++ x) (sym next) ∙ h

pub spaces-all : (nodes copies : List Node) (i : ℕ) → drop i nodes ≡ [] → flat_map spaces_in copies ++ flat_map spaces_in (drop i nodes) ≡ flat_map spaces_in nodes
    → flat_map spaces_in copies ≡ flat_map spaces_in nodes
spaces-all nodes copies i d h = sym (append-nil (flat_map spaces_in copies)) ∙ ap (λ x. flat_map spaces_in copies ++ flat_map spaces_in x) (sym d) ∙ h
