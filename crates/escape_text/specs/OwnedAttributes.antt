-- Attributes as they are written, as the code keeps them.
use Rattle.std.specs.Prelude.{Bool, ℕ, List, Option, map, filter}
use Rattle.std.specs.declared.cmp.Ordering.{Ordering}
use Rattle.std.specs.Ordering.{on, is_lt}
use Rattle.ix_base.specs.Markup.{attribute_of, is_written}
use Rattle.ix_base.specs.SortedLists.{text_cmp}
use Rattle.ix_base.specs.Trees.{Named, Valued}
use Rattle.ix_base.specs.WrittenMarkup.{Attribute}
use Rattle.escape_text.specs.declared.attributes.Own.{Own}

abbrev pub own : Own → Attribute
own o = record { name = o.name; value = o.value }

-- what is written of some attributes of an element of this name, in their order
abbrev pub written_of : Option (List ℕ) → Named → List Valued → List Attribute
written_of base element attrs = map (attribute_of base element) (filter is_written attrs)

-- by the bytes of the written name
abbrev pub own_cmp : Own → Own → Ordering
own_cmp = on (λ o. o.name) text_cmp

abbrev pub is_earlier : Own → Own → Bool
is_earlier a b = is_lt (own_cmp a b)
