-- What an element gives to markup, by parts.
use Rattle.std.specs.Prelude.{ℕ, Bool, true, false, ◌&&◌, List, [], ◌∷◌, ◌++◌, Option}
use Rattle.ix_base.specs.Markup.{markup, ends_short, is_silent, declaration, own_attributes, plain, plain_by, manner}
use Rattle.ix_base.specs.Trees.{Head, none, elem, Tree}
use Rattle.ix_base.specs.WrittenMarkup.{close_text, attrs_text}
use Rattle.escape_text.specs.Manners.{is_opened}

-- the markup of one element
abbrev pub element_markup : Option (List ℕ) → List ℕ → Tree → List ℕ
element_markup base around t = markup base around (elem t.head t.children none)

-- a start tag without its end
abbrev pub open_text : Option (List ℕ) → List ℕ → Head → List ℕ
open_text base around h = 60 ∷ (h.name.local ++ attrs_text (declaration around h.name.ns ++ own_attributes base h) [])

-- what follows the attributes of an element that is kept
abbrev pub rest_text : Bool → List ℕ → List ℕ → List ℕ
rest_text true name inner = 47 ∷ 62 ∷ []
rest_text false name inner = 62 ∷ (inner ++ close_text name)

-- the element is one tag
abbrev pub is_short : Tree → Bool
is_short t = ends_short t.head.name && is_silent t.children

-- what an element that isn't left out gives, with this base below it
abbrev pub shown_markup : Bool → Option (List ℕ) → List ℕ → Tree → List ℕ
shown_markup true base around t = markup base around t.children
shown_markup false base around t =
    open_text base around t.head ++ rest_text (is_short t) t.head.name.local (markup base t.head.name.ns t.children)

-- the same of an element, by its name
abbrev pub shown_by : Option (List ℕ) → List ℕ → Tree → List ℕ
shown_by base around t = shown_markup (is_opened (manner t.head.name)) base around t

-- the plain text of one element
abbrev pub plain_of : Tree → List ℕ
plain_of t = plain_by (manner t.head.name) (plain t.children)
