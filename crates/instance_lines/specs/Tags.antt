-- The attributes of a tag, of which those without a value are left out.
use Rattle.std.specs.Prelude.{ℕ, List, [], ◌∷◌, ◌++◌, flat_map, option_map}
use Rattle.ix_base.specs.WrittenMarkup.{Attribute}
use Rattle.instance_lines.specs.declared.markup.Valued.{Valued}
use Rattle.instance_lines.specs.Canonical.{attr_if}

abbrev pub attr_of : Valued → List Attribute
attr_of a = attr_if a.name.now (option_map (λ v. v.now) a.value)

abbrev pub attrs_of : List Valued → List Attribute
attrs_of list = flat_map attr_of list

-- the end quote of a value, and what stands before that of the attribute of this name
abbrev pub between_values : List ℕ → List ℕ
between_values name = 34 ∷ 32 ∷ (name ++ 61 ∷ 34 ∷ [])
