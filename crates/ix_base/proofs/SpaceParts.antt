-- Namespaces of parts of what is numbered.
use Rattle.std.proofs.Common.{◌≡◌, ◌∙◌, ◌++◌, ◌<◌, ℕ, zero, suc, length, arith, List, [], ◌∷◌, ap, flat_map, get_or, inl, inr, map, None, Option, Some, rules, subst, sym}
use Rattle.std.specs.Borrow.{Bor}
use Rattle.std.specs.List.{Contains}
use Rattle.std.specs.Prelude.{IfSome}
use Rattle.std.proofs.lemmas.List.Elements.{Contains-append_left, Contains-append_right}
use Rattle.std.proofs.lemmas.List.Folds.{flat_map-map}
use Rattle.ix_base.specs.declared.outer.Outer.{Outer}
use Rattle.ix_base.specs.declared.tree.Element.{Element}
use Rattle.ix_base.specs.declared.tree.Node.{Node, the_lemmas}
use Rattle.ix_base.specs.declared.tree.Node.TheVariants.{Elem}
use Rattle.ix_base.specs.Spaces.{AreNumbered, IsOuter, Space, space_of, spaces_bound, spaces_in, spaces_named, spaces_of}
use Rattle.ix_base.proofs.OnceLemmas.{Contains-cases, Contains-later, Contains-nil, Contains-same}

-- all of these are among those
abbrev pub IsPart : List Space → List Space → Type 0
IsPart xs ys = (s : Space) → Contains ys s → Contains xs s

pub part-cons : (x : Space) (xs ys : List Space) → IsPart xs ys → IsPart (x ∷ xs) (x ∷ ys)
part-cons x xs ys part s c = elim (Contains-cases x ys s c) [
  | inl e ↦ Contains-same x xs s e
  | inr more ↦ Contains-later x xs s (part s more)
]

pub numbered-part : (xs ys : List Space) → IsPart xs ys → AreNumbered xs → AreNumbered ys
numbered-part xs ys part h a b in_a in_b = h a b (part a in_a) (part b in_b)

-- an element has its name's namespace, and those of its children
same_spaces : (ns : List Node) → flat_map (λ l. l) (map spaces_in ns) ≡ flat_map spaces_in ns
same_spaces ns = flat_map-map (λ l. l) spaces_in ns

pub spaces-Element : (e : Element) → spaces_of e ≡ space_of e.name.now ∷ (spaces_named e.attrs ++ spaces_bound e.scope ++ flat_map spaces_in e.children.now)
spaces-Element e = search (rules, the_lemmas, same_spaces)

pub spaces-Elem : (e : Bor Element) → spaces_in (Elem e) ≡ spaces_of e.now
spaces-Elem e = search (rules, the_lemmas)

pub part-children : (e : Element) → IsPart (spaces_of e) (flat_map spaces_in e.children.now)
part-children e s c =
    subst (λ spaces. Contains spaces s) (sym (spaces-Element e))
    (Contains-later (space_of e.name.now) (spaces_named e.attrs ++ spaces_bound e.scope ++ flat_map spaces_in e.children.now) s
    (Contains-append_right (spaces_named e.attrs ++ spaces_bound e.scope) (flat_map spaces_in e.children.now) s c))

pub part-inside : (e : Element) → IsPart (spaces_of e) (space_of e.name.now ∷ flat_map spaces_in e.children.now)
part-inside e s c = elim (Contains-cases (space_of e.name.now) (flat_map spaces_in e.children.now) s c) [
  | inl is ↦ subst (λ spaces. Contains spaces s) (sym (spaces-Element e)) (Contains-same (space_of e.name.now) _ s is)
  | inr more ↦ part-children e s more
]

pub part-name : (e : Element) → IsPart (spaces_of e) (space_of e.name.now ∷ [])
part-name e s c = elim (Contains-cases (space_of e.name.now) [] s c) [
  | inl is ↦ subst (λ spaces. Contains spaces s) (sym (spaces-Element e)) (Contains-same (space_of e.name.now) _ s is)
  | inr none ↦ absurd (Contains-nil s none)
]

-- an element among nodes
pub part-node : (nodes : List Node) (i : ℕ) (d : Node) (e : Bor Element) → i < length nodes → d ≡ get_or nodes i d → d ≡ Elem e
    → IsPart (flat_map spaces_in nodes) (spaces_of e.now)
part-node [] i d e l at is = absurd (omega arith)
part-node (x ∷ nodes) zero d e l at is = λ s c.
    Contains-append_left (spaces_in x) (flat_map spaces_in nodes) s (subst (λ spaces. Contains spaces s) (sym (ap spaces_in (sym at ∙ is) ∙ spaces-Elem e)) c)
part-node (x ∷ nodes) (suc i) d e l at is = λ s c.
    Contains-append_right (spaces_in x) (flat_map spaces_in nodes) s (part-node nodes i d e (omega arith) at is s c)

-- what is numbered in an element is so in an element below it
pub numbered-child : (e : Element) (i : ℕ) (d : Node) (below : Bor Element) → i < length e.children.now → d ≡ get_or e.children.now i d → d ≡ Elem below
    → AreNumbered (spaces_of e) → AreNumbered (spaces_of below.now)
numbered-child e i d below l at is h =
    numbered-part (spaces_of e) (spaces_of below.now) (λ s c. part-children e s (part-node e.children.now i d below l at is s c)) h

-- what stands around an element, for its name and for what it holds
pub outer-part : (o : Outer) (xs ys : List Space) → IsPart xs ys → IsOuter o xs → IsOuter o ys
outer-part o xs ys part h = by_number o.number h where
  by_number : (k : Option ℕ) → IfSome k (λ n. AreNumbered (record { number = n; text = o.ns.now } ∷ xs))
      → IfSome k (λ n. AreNumbered (record { number = n; text = o.ns.now } ∷ ys))
  by_number None h = tt
  by_number (Some n) h =
      let first : Space = record { number = n; text = o.ns.now } in numbered-part (first ∷ xs) (first ∷ ys) (part-cons first xs ys part) h
