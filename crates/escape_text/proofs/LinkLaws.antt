-- Markup without links is the same under every base.
use Rattle.std.proofs.Common.{◌≡◌, ◌∙◌, ◌++◌, ℕ, Bool, true, false, not, cond, List, [], ◌∷◌, refl, ap, sym, Option, Some, None, map}
use Rattle.std.specs.Prelude.{◌&&◌, ◌||◌, filter}
use Rattle.std.specs.List.{list_any}
use Rattle.ix_base.specs.Markup.{Manner, LeftOut, Opened, Kept, manner, is_silent, is_link_of, is_written, value_by, written_name, attribute_of, attribute_cmp, declaration, own_attributes, base_below, ends_short, element_by, put_words, body, markup}
use Rattle.ix_base.specs.SortedLists.{sorted}
use Rattle.ix_base.specs.Trees.{Named, Valued, Head, Nodes, none, chars, elem, Tree}
use Rattle.ix_base.specs.WrittenMarkup.{Attribute, Markup, nothing, written, attrs_text}
use Rattle.escape_text.specs.ElementMarkup.{shown_markup, rest_text, is_short}
use Rattle.escape_text.specs.LinkPlaces.{has_link, has_links, is_linked}
use Rattle.escape_text.specs.Manners.{is_left_out}
use Rattle.escape_text.proofs.MarkupLaws.{by_manner, same-manner}

neither-left : (a b : Bool) → (a || b) ≡ false → a ≡ false
neither-left true b e = absurd (cc)
neither-left false b e = refl

neither-right : (a b : Bool) → (a || b) ≡ false → b ≡ false
neither-right true b e = absurd (cc)
neither-right false b e = e

value-unlinked : (b : Bool) (base other : Option (List ℕ)) (text : List ℕ) → b ≡ false → value_by b base text ≡ value_by b other text
value-unlinked true base other text e = absurd (cc)
value-unlinked false base other text e = refl

attribute-unlinked : (base other : Option (List ℕ)) (element : Named) (a : Valued) → is_link_of element a.name ≡ false
    → attribute_of base element a ≡ attribute_of other element a
attribute-unlinked base other element a h =
    let made : List ℕ → Attribute = λ v. record { name = written_name a.name; value = v } in
    ap made (value-unlinked (is_link_of element a.name) base other a.value h)

map-kept : (b : Bool) (f g : Valued → Attribute) (a : Valued) (xs : List Valued) → f a ≡ g a → map f xs ≡ map g xs
    → map f (cond b (a ∷ xs) xs) ≡ map g (cond b (a ∷ xs) xs)
map-kept true f g a xs one others = λ i. one i ∷ others i
map-kept false f g a xs one others = others

attributes-unlinked : (base other : Option (List ℕ)) (element : Named) (attrs : List Valued) → list_any (λ a. is_link_of element a.name) attrs ≡ false
    → map (attribute_of base element) (filter is_written attrs) ≡ map (attribute_of other element) (filter is_written attrs)
attributes-unlinked base other element [] h = refl
attributes-unlinked base other element (a ∷ attrs) h =
    map-kept (is_written a) (attribute_of base element) (attribute_of other element) a (filter is_written attrs)
    (attribute-unlinked base other element a (neither-left (is_link_of element a.name) _ h))
    (attributes-unlinked base other element attrs (neither-right (is_link_of element a.name) _ h))

own-unlinked : (base other : Option (List ℕ)) (h : Head) → has_link h ≡ false → own_attributes base h ≡ own_attributes other h
own-unlinked base other h e = ap (sorted attribute_cmp) (attributes-unlinked base other h.name h.attrs e)

by-unlinked : (m : Manner) (base other : Option (List ℕ)) (around : List ℕ) (head : Head) (children more : Nodes) (rest : Markup)
    → (not (is_left_out m) && (has_link head || has_links children)) ≡ false
    → ((r : Markup) → body base around more r ≡ body other around more r)
    → (has_links children ≡ false → (b o : Option (List ℕ)) (ar : List ℕ) (r : Markup) → body b ar children r ≡ body o ar children r)
    → by_manner m base around head children more rest ≡ by_manner m other around head children more rest
by-unlinked LeftOut base other around head children more rest h others inner = others rest
by-unlinked Opened base other around head children more rest h others inner =
    ap (body (base_below base head) around children) (others rest)
    ∙ inner (neither-right (has_link head) _ h) (base_below base head) (base_below other head) around (body other around more rest)
by-unlinked Kept base other around head children more rest h others inner =
    let short = ends_short head.name && is_silent children in
    let attrs = own-unlinked (base_below base head) (base_below other head) head (neither-left (has_link head) _ h) in
    let kids = inner (neither-right (has_link head) _ h) (base_below base head) (base_below other head) head.name.ns nothing in
    λ i. element_by short head.name.local (declaration around head.name.ns ++ attrs i) (kids i) (others rest i)

body-unlinked : (base other : Option (List ℕ)) (around : List ℕ) (nodes : Nodes) (rest : Markup) → has_links nodes ≡ false
    → body base around nodes rest ≡ body other around nodes rest
body-unlinked base other around none rest h = refl
body-unlinked base other around (chars text more) rest h = ap (put_words text) (body-unlinked base other around more rest h)
body-unlinked base other around (elem head children more) rest h =
    same-manner (manner head.name) base around head children more rest refl
    ∙ by-unlinked (manner head.name) base other around head children more rest
    (neither-left (not (is_left_out (manner head.name)) && (has_link head || has_links children)) _ h)
    (λ r. body-unlinked base other around more r (neither-right (not (is_left_out (manner head.name)) && (has_link head || has_links children)) _ h))
    (λ k b o ar r. body-unlinked b o ar children r k)
    ∙ sym (same-manner (manner head.name) other around head children more rest refl)

-- nodes without links
pub markup-unlinked : (base : List ℕ) (around : List ℕ) (nodes : Nodes) → has_links nodes ≡ false → markup (Some base) around nodes ≡ markup None around nodes
markup-unlinked base around nodes h = ap (λ m. written m []) (body-unlinked (Some base) None around nodes nothing h)

-- an element without links, at it and in what it holds
pub shown-unlinked : (opened : Bool) (base : List ℕ) (around : List ℕ) (t : Tree) → is_linked t ≡ false
    → shown_markup opened (Some base) around t ≡ shown_markup opened None around t
shown-unlinked true base around t h = markup-unlinked base around t.children (neither-right (has_link t.head) _ h)
shown-unlinked false base around t h =
    let attrs = own-unlinked (Some base) None t.head (neither-left (has_link t.head) _ h) in
    let inner = markup-unlinked base t.head.name.ns t.children (neither-right (has_link t.head) _ h) in
    λ i. (60 ∷ (t.head.name.local ++ attrs_text (declaration around t.head.name.ns ++ attrs i) [])) ++ rest_text (is_short t) t.head.name.local (inner i)

pub ruleset unlinked_laws = (markup-unlinked, shown-unlinked)
