-- Tags, texts and references that are written from markup.
use Rattle.std.specs.Prelude.{◌≡◌, ℕ, ◌==◌, Bool, true, ◌||◌, List, ◌∷◌, ◌++◌, length, map, Some}
use Rattle.ix_base.specs.NcName.{is_white}
use Rattle.ix_base.specs.Scope.{is_qname}
use Rattle.ix_base.specs.WrittenMarkup as written
use Rattle.page_constructs.specs.Constructs.{Construct, Cut, kind_of, size}
use Rattle.page_constructs.specs.declared.kind.Kind.{Kind}
use Rattle.page_constructs.specs.Tokens.{Attribute, Tag}

-- the attribute has a qualified name
abbrev pub HasName : written.Attribute → Type 0
HasName a = is_qname a.name ≡ true

-- an attribute as its tag gives it
abbrev pub read : written.Attribute → Attribute
read a = record { name = a.name; value = Some a.value }

-- the tag that is written at an offset
abbrev pub tag_at : ℕ → List ℕ → List written.Attribute → Tag
tag_at at name attrs = record { offset = at; name = name; attrs = map read attrs }

-- a construct before others
abbrev pub put_first : Construct → Cut → Cut
put_first c cut_ = record { constructs = c ∷ cut_.constructs; rest = cut_.rest }

-- `<` and `&`
abbrev pub is_markup : ℕ → Bool
is_markup c = c == 60 || c == 38

-- what ends a reference, with it or before it
abbrev pub ends_reference : ℕ → Bool
ends_reference c = c == 59 || (is_white c || c == 60 || c == 38)

-- in front of this rest, a text is cut as one construct of this kind
abbrev pub IsCut : Kind → List ℕ → Bool → List ℕ → Type 0
IsCut kind text first rest = (kind_of first (text ++ rest) ≡ kind) × (size first (text ++ rest) ≡ Some (length text))
