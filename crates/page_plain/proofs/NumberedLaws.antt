-- Namespaces that are compared by their numbers, of parts of what is numbered.
use Rattle.std.proofs.Common.{◌≡◌, ◌∙◌, ◌<◌, ◌∷◌, ◌++◌, [], ℕ, List, None, Some, ap, flat_map, get_or, inl, inr, length, subst, sym}
use Rattle.std.specs.Borrow.{Bor}
use Rattle.std.specs.List.{Contains}
use Rattle.std.proofs.lemmas.Bool.Decides.{Decides-eqb}
use Rattle.std.proofs.lemmas.List.{get_or_default}
use Rattle.std.proofs.lemmas.List.Elements.{Contains-append_cases, Contains-append_left, Contains-append_right}
use Rattle.ix_base.specs.declared.outer.Outer.{Outer}
use Rattle.ix_base.specs.declared.tree.Attr.{Attr}
use Rattle.ix_base.specs.declared.tree.Element.{Element}
use Rattle.ix_base.specs.declared.tree.Node.{Node}
use Rattle.ix_base.specs.declared.tree.Node.TheVariants.{Elem}
use Rattle.ix_base.specs.Spaces.{AreNumbered, IsOuter, Space, space_of, spaces_bound, spaces_in, spaces_named, spaces_of}
use Rattle.ix_base.proofs.OnceLemmas.{Contains-cases, Contains-later}
use Rattle.ix_base.proofs.SpaceParts.{IsPart, numbered-part, outer-part, part-children, part-inside, part-name, part-node, spaces-Element}
use Rattle.escape_text.proofs.WithinLaws.{outer_named, outer_unnumbered}
use Rattle.page_constructs.proofs.SpanLaws.{bytes-one}
use Rattle.page_plain.specs.SpaceNumbers.{IsWithin, attr_spaces}
use Rattle.page_plain.proofs.MemberLaws.{Contains-map}

-- one number is one namespace
pub one-space : (spaces : List Space) → AreNumbered spaces → (a b : Space) → Contains spaces a → Contains spaces b → a.number ≡ b.number → a ≡ b
one-space spaces h a b in_a in_b same =
    let text : a.text ≡ b.text = bytes-one a.text b.text (sym (h a b in_a in_b) ∙ (Decides-eqb a.number b.number).1 same) in
    ap (λ n. record { number = n; text = a.text }) same ∙ ap (λ t. record { number = b.number; text = t }) text

-- what stands behind others
part-behind : (front xs ys : List Space) → IsPart xs ys → IsPart (front ++ xs) (front ++ ys)
part-behind front xs ys part s c = elim (Contains-append_cases front ys s c) [
  | inl k ↦ Contains-append_left front xs s k
  | inr k ↦ Contains-append_right front xs s (part s k)
]

pub numbered-behind : (front xs ys : List Space) → IsPart xs ys → AreNumbered (front ++ xs) → AreNumbered (front ++ ys)
numbered-behind front xs ys part = numbered-part (front ++ xs) (front ++ ys) (part-behind front xs ys part)

pub space-there : (attrs : List Attr) (i : ℕ) (d : Attr) → i < length attrs → Contains (attr_spaces attrs) (space_of (get_or attrs i d).name.now)
space-there attrs i d l =
    let a = get_or attrs i d in
    Contains-map (λ x. space_of x.name.now) attrs a (i, l, get_or_default attrs i a d l)

-- those of the attributes of an element
pub part-attrs : (e : Element) → IsPart (spaces_of e) (spaces_named e.attrs)
part-attrs e s c =
    let below = flat_map spaces_in e.children.now in
    subst (λ spaces. Contains spaces s) (sym (spaces-Element e))
    (Contains-later (space_of e.name.now) (spaces_named e.attrs ++ spaces_bound e.scope ++ below) s
    (Contains-append_left (spaces_named e.attrs ++ spaces_bound e.scope) below s
    (Contains-append_left (spaces_named e.attrs) (spaces_bound e.scope) s c)))

pub numbered_attrs : (prefixed : List Space) (e : Element) → AreNumbered (prefixed ++ spaces_of e) → AreNumbered (prefixed ++ spaces_named e.attrs)
numbered_attrs prefixed e = numbered-behind prefixed (spaces_of e) (spaces_named e.attrs) (part-attrs e)

pub numbered_attr : (prefixed : List Space) (attrs : List Attr) (i : ℕ) (d : Attr) → i < length attrs
    → AreNumbered (prefixed ++ attr_spaces attrs) → AreNumbered (space_of (get_or attrs i d).name.now ∷ prefixed)
numbered_attr prefixed attrs i d l = numbered-part (prefixed ++ attr_spaces attrs) (space_of (get_or attrs i d).name.now ∷ prefixed)
    (λ s c. elim (Contains-cases (space_of (get_or attrs i d).name.now) prefixed s c) [
      | inl e ↦ Contains-append_right prefixed (attr_spaces attrs) s (subst (λ z. Contains (attr_spaces attrs) z) e (space-there attrs i d l))
      | inr k ↦ Contains-append_left prefixed (attr_spaces attrs) s k
    ])

within-part : (o : Outer) (prefixed xs ys : List Space) → IsPart xs ys → IsWithin o prefixed xs → IsWithin o prefixed ys
within-part o prefixed xs ys part h = (numbered-behind prefixed xs ys part h.0, outer-part o xs ys part h.1)

pub within_name : (o : Outer) (prefixed : List Space) (e : Element) → IsWithin o prefixed (spaces_of e) → IsOuter o (space_of e.name.now ∷ [])
within_name o prefixed e h = outer-part o (spaces_of e) (space_of e.name.now ∷ []) (part-name e) h.1

pub within_children : (o : Outer) (prefixed : List Space) (e : Element) → IsWithin o prefixed (spaces_of e) → IsWithin o prefixed (flat_map spaces_in e.children.now)
within_children o prefixed e h = within-part o prefixed (spaces_of e) (flat_map spaces_in e.children.now) (part-children e) h

pub within_node : (o : Outer) (prefixed : List Space) (nodes : List Node) (i : ℕ) (d : Node) (e : Bor Element) → i < length nodes → d ≡ get_or nodes i d → d ≡ Elem e
    → IsWithin o prefixed (flat_map spaces_in nodes) → IsWithin o prefixed (spaces_of e.now)
within_node o prefixed nodes i d e l at is h = within-part o prefixed (flat_map spaces_in nodes) (spaces_of e.now) (part-node nodes i d e l at is) h

-- the namespace of an element around what it holds, and none around a root
pub within_own : (o : Outer) (prefixed : List Space) (e : Element) → o.ns.now ≡ e.name.now.ns.now → o.number ≡ Some e.name.now.number → AreNumbered (prefixed ++ spaces_of e)
    → IsWithin o prefixed (flat_map spaces_in e.children.now)
within_own o prefixed e text number h =
    let below = flat_map spaces_in e.children.now in (
      numbered-behind prefixed (spaces_of e) below (part-children e) h,
      outer_named o e.name.now below text number (numbered-part (prefixed ++ spaces_of e) (space_of e.name.now ∷ below)
          (λ s c. Contains-append_right prefixed (spaces_of e) s (part-inside e s c)) h),
    )

pub within_root : (o : Outer) (prefixed : List Space) (e : Element) → o.number ≡ None → AreNumbered (prefixed ++ spaces_of e) → IsWithin o prefixed (spaces_of e)
within_root o prefixed e none h = (h, outer_unnumbered o (spaces_of e) none)
