-- The trees of a page (XML 1.0 productions 1, 22, 27, 39 and 43): how its constructs spell one.
use Rattle.std.specs.Prelude.{◌≡◌, ◌≢◌, ◌⊎◌, ℕ, suc, ◌&&◌, ◌||◌, Bool, true, false, List, [], ◌∷◌, ◌++◌, map, Option, Some, None, bytes_eq, codes}
use Rattle.std.specs.List.{list_all}
use Rattle.std.specs.Char.{to_ascii_lowercase}
use Rattle.ix_base.specs.NcName.{is_white}
use Rattle.ix_base.specs.Trees.{Bound, Head, Nodes, none, chars, elem, Tree}
use Rattle.ix_base.specs.Sound.{IsApart}
use Rattle.ix_base.specs.Scope.{outermost}
use Rattle.page_text.specs.Characters.{stop}
use Rattle.page_constructs.specs.Constructs.{Construct, cut}
use Rattle.page_constructs.specs.Forms.{Means}
use Rattle.page_tree.specs.Tags.{opened}
use Rattle.page_constructs.specs.Tokens.{Tag, Token, start, empty, close, words, refer, section, declaration, doctype, silent}

-- A declaration is within the profile: version 1.0, and no encoding but these. It is the page's first construct, by its
-- kind; below it stands with what gives nothing.
abbrev pub is_encoding_name : List ℕ → Bool
is_encoding_name name = bytes_eq name (codes "utf-8") || bytes_eq name (codes "ascii") || bytes_eq name (codes "us-ascii")

abbrev pub is_encoding : List ℕ → Bool
is_encoding name = is_encoding_name (map to_ascii_lowercase name)

abbrev pub is_within : List ℕ → Option (List ℕ) → Bool
is_within version None = bytes_eq version (codes "1.0")
is_within version (Some encoding) = bytes_eq version (codes "1.0") && is_encoding encoding

-- texts, references, sections and what gives nothing, whose characters, joined, are this text
abbrev pub AreRuns : List ℕ → List Token → Type 0
AreRuns text [] = text ≡ []
AreRuns text (declaration version encoding ∷ ts) = (is_within version encoding ≡ true) × AreRuns text ts
AreRuns text (words w ∷ ts) = (more : List ℕ) × (text ≡ w ++ more) × AreRuns more ts
AreRuns text (refer (Some c) ∷ ts) = (more : List ℕ) × (text ≡ c ++ more) × AreRuns more ts
AreRuns text (section w ∷ ts) = (more : List ℕ) × (text ≡ w ++ more) × AreRuns more ts
AreRuns text (silent ∷ ts) = AreRuns text ts
AreRuns text (t ∷ ts) = ⊥

-- what may stand behind the root: white space, comments and instructions
abbrev pub AreBehind : List Token → Type 0
AreBehind [] = Unit {0}
AreBehind (words w ∷ ts) = (list_all is_white w ≡ true) × AreBehind ts
AreBehind (silent ∷ ts) = AreBehind ts
AreBehind (declaration version encoding ∷ ts) = (is_within version encoding ≡ true) × AreBehind ts
AreBehind (t ∷ ts) = ⊥

-- what may stand before the root: besides a declaration, and one doctype unless there was one
abbrev pub AreBefore : Bool → List Token → Type 0
AreBefore doctyped [] = Unit {0}
AreBefore doctyped (words w ∷ ts) = (list_all is_white w ≡ true) × AreBefore doctyped ts
AreBefore doctyped (silent ∷ ts) = AreBefore doctyped ts
AreBefore doctyped (declaration version encoding ∷ ts) = (is_within version encoding ≡ true) × AreBefore doctyped ts
AreBefore false (doctype false ∷ ts) = AreBefore true ts
AreBefore doctyped (t ∷ ts) = ⊥

-- some constructs of the one kind, and then some of the other
pub record Joins (Front Rest : List Token → Type 0) (ts : List Token) : Type 0 where
  pub front : List Token
  pub rest : List Token
  pub splits : ts ≡ front ++ rest
  pub first : Front front
  pub second : Rest rest

-- an empty-element tag, or a start tag, what spells the children, and an end tag of the same written name
abbrev pub HasTags : Tag → Nodes → (List Token → Type 0) → List Token → Type 0
HasTags t children Inner ts =
    ((ts ≡ empty t ∷ []) × (children ≡ none)) ⊎ ((inner : List Token) × (ts ≡ start t ∷ (inner ++ close t.name ∷ [])) × Inner inner)

-- an element of this head, with children that these spell, at most so deep, in the scope of its parent
pub record IsElement (depth : ℕ) (scope : List Bound) (head : Head) (children : Nodes) (Inner : ℕ → List Token → Type 0) (ts : List Token) : Type 0 where
  pub tag : Tag
  pub below : ℕ
  pub deep : depth ≡ suc below
  pub heads : opened scope tag ≡ Some head
  pub tags : HasTags tag children (Inner below) ts

-- the constructs spell these nodes, at most so deep, in this scope
abbrev pub Spells : Nodes → ℕ → List Bound → List Token → Type 0
Spells none depth scope ts = AreRuns [] ts
Spells (chars text rest) depth scope ts = (text ≢ []) × IsApart rest × Joins (AreRuns text) (Spells rest depth scope) ts
Spells (elem head children rest) depth scope ts =
    Joins (AreRuns []) (Joins (IsElement depth scope head children (λ below. Spells children below head.scope)) (Spells rest depth scope)) ts

-- a front, the spelling of one root, and an end
abbrev pub SpellsPage : Tree → ℕ → List Token → Type 0
SpellsPage t depth ts =
    Joins (AreBefore false)
    (Joins (IsElement depth outermost t.head t.children (λ below. Spells t.children below t.head.scope)) AreBehind) ts

-- each construct means the token
abbrev pub AllMean : List Construct → List Token → Type 0
AllMean [] [] = Unit {0}
AllMean (c ∷ cs) (t ∷ ts) = Means c t × AllMean cs ts
AllMean cs ts = ⊥

-- The bytes are a page of this tree, at most so deep: all its characters are good, all its constructs are whole, and they
-- spell the tree.
pub record page (b : List ℕ) (n : ℕ) (tree : Tree) : Type 0 where
  pub good : stop b ≡ None
  pub whole : (cut b).rest ≡ []
  pub tokens : List Token
  pub mean : AllMean (cut b).constructs tokens
  pub spell : SpellsPage tree n tokens
