-- The page numbers of what is built, and the namespaces.
use Rattle.std.proofs.Common.{◌≡◌, ℕ, List, [], ◌∷◌, ◌++◌, flat_map, map, refl, ap, ◌∙◌, append-nil, rules}
use Rattle.std.specs.Borrow.{Bor}
use Rattle.std.proofs.lemmas.Grind.{flat_map-append}
use Rattle.std.proofs.lemmas.List.Elements.{All-nil, All-cons, All-same}
use Rattle.std.proofs.lemmas.List.Folds.{flat_map-map}
use Rattle.ix_base.specs.Elements.{pages_of, pages_in}
use Rattle.ix_base.specs.Spaces.{space_of, spaces_bound, spaces_in, spaces_named, spaces_of}
use Rattle.ix_base.specs.declared.tree.Element.{Element}
use Rattle.ix_base.specs.declared.tree.Node.{Node, the_lemmas}
use Rattle.ix_base.specs.declared.tree.Node.TheVariants.{Elem}
use Rattle.page_tree.specs.Stacks.{AreAll}

-- an element that is put behind some children
child : {X : Type 0} (of : Node → List X) (ns more : List Node) (e : Bor Element) (own : List X) → of (Elem e) ≡ own → more ≡ ns ++ Elem e ∷ []
    → flat_map of more ≡ flat_map of ns ++ own
child of ns more e own is m =
    ap (flat_map of) m ∙ flat_map-append of ns (Elem e ∷ []) ∙ ap (λ p. flat_map of ns ++ p) (append-nil (of (Elem e)) ∙ is)

pages-Elem : (e : Bor Element) → pages_in (Elem e) ≡ pages_of e.now
pages-Elem e = search (rules, the_lemmas)

pub child-pages : (ns more : List Node) (e : Bor Element) → more ≡ ns ++ Elem e ∷ []
    → flat_map pages_in more ≡ flat_map pages_in ns ++ pages_of e.now
child-pages ns more e m = child pages_in ns more e (pages_of e.now) (pages-Elem e) m

spaces-Elem : (e : Bor Element) → spaces_in (Elem e) ≡ spaces_of e.now
spaces-Elem e = search (rules, the_lemmas)

pub child-spaces : (ns more : List Node) (e : Bor Element) → more ≡ ns ++ Elem e ∷ []
    → flat_map spaces_in more ≡ flat_map spaces_in ns ++ spaces_of e.now
child-spaces ns more e m = child spaces_in ns more e (spaces_of e.now) (spaces-Elem e) m

-- an element's number, and those below it
pub same_pages : (ns : List Node) → flat_map (λ pages. pages) (map pages_in ns) ≡ flat_map pages_in ns
same_pages ns = flat_map-map (λ pages. pages) pages_in ns

pub pages-Element : (e : Element) → pages_of e ≡ e.place.page ∷ flat_map pages_in e.children.now
pages-Element e = search (rules, the_lemmas, same_pages)

-- its namespaces, and those below it
pub same_spaces : (ns : List Node) → flat_map (λ l. l) (map spaces_in ns) ≡ flat_map spaces_in ns
same_spaces ns = flat_map-map (λ l. l) spaces_in ns

pub spaces-Element : (e : Element) → spaces_of e ≡ space_of e.name.now ∷ (spaces_named e.attrs ++ spaces_bound e.scope ++ flat_map spaces_in e.children.now)
spaces-Element e = search (rules, the_lemmas, same_spaces)

module _ (page : ℕ) where
  abbrev Is : ℕ → Type 0
  Is p = p ≡ page

  pub all-one : (xs : List ℕ) → xs ≡ page ∷ [] → AreAll page xs
  all-one xs e = All-same Is xs (page ∷ []) e (All-cons Is page [] (refl {A = ℕ}) (All-nil Is))

  pub all-same : (xs ys : List ℕ) → xs ≡ ys → AreAll page ys → AreAll page xs
  all-same xs ys e h = All-same Is xs ys e h
