-- The start tags of items, and what follows.
use Rattle.std.proofs.Common.{◌≡◌, refl, ℕ, List, [], ◌∷◌, ◌++◌, append_assoc, codes}
use Rattle.ix_base.specs.Escapes.{ae}
use Rattle.ix_base.specs.WrittenMarkup.{Attribute, attrs_text}
use Rattle.ix_base.specs.declared.content.Item.{Item}
use Rattle.instance_lines.specs.Canonical.{accuracy_attrs, attr_if, item_attrs}
use Rattle.instance_lines.proofs.RootLaws.{attrs_text-append}

-- attributes, and further ones
pub attrs_text-both : (xs ys : List Attribute) (end : List ℕ) → attrs_text (xs ++ ys) end ≡ attrs_text xs (attrs_text ys end)
attrs_text-both [] ys end = refl
attrs_text-both (a ∷ xs) ys end = rw (attrs_text-both xs ys end) refl

-- those of an item, one behind another
pub item_attrs-text : (i : Item) (more : List ℕ)
    → attrs_text (item_attrs i) more
    ≡ 32 ∷ (codes "contextRef" ++ 61 ∷ 34 ∷ (ae i.context ++ 34 ∷ attrs_text (attr_if (codes "unitRef") i.unit) (attrs_text (accuracy_attrs i.accuracy) (attrs_text (attr_if (codes "id") i.id) more))))
item_attrs-text i more = rw (attrs_text-both, attrs_text-both) refl

-- a start tag, and what follows
pub tag-more : (name : List ℕ) (attrs : List Attribute) (end more : List ℕ)
    → (60 ∷ (name ++ attrs_text attrs end)) ++ more ≡ 60 ∷ (name ++ attrs_text attrs (end ++ more))
tag-more name attrs end more = rw (attrs_text-append, append_assoc) refl
