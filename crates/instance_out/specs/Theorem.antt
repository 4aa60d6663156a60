-- What the canonical text of a content denotes, and how many contents a tree denotes (XBRL 2.1, sections 3 and 4).
use Rattle.std.specs.Prelude.{◌≡◌, ℕ, List, [], ◌∷◌, ◌++◌, Option, option_map}
use Rattle.ix_base.specs.Outside.{Begun, last_grown}
use Rattle.ix_base.specs.declared.content.Content.{Content}
use Rattle.ix_base.specs.PlainContents.{said_of}
use Rattle.ix_base.specs.Scope.{outermost}
use Rattle.ix_base.specs.Trees.{Tree}
use Rattle.ix_base.specs.WrittenMarkup.{Markup, written}
use Rattle.instance_lines.specs.Canonical.{canon, first_line}
use Rattle.instance_out.specs.Denotation.{denotes}
use Rattle.instance_out.specs.Proper.{Proper}
use Rattle.page_tree.specs.Page.{page}
use Rattle.instance_out.specs.MarkupTrees.{tree_in}

-- the text is the first line and the markup of a root, whose nodes denote the content wherever it begins
pub record IsDenoted (c : Content) : Type 0 where
  pub root : Markup
  pub text : canon c ≡ first_line ++ written root (10 ∷ [])
  pub says : (at : ℕ) → denotes (tree_in root at outermost) c

-- the canonical text of a proper content denotes it
abbrev pub ProperIsDenoted : Type 0
ProperIsDenoted = (c : Content) → Proper (said_of c) → IsDenoted c

-- a tree denotes one content
abbrev pub DenotesOne : Type 0
DenotesOne = (t : Tree) (c d : Content) → denotes t c → denotes t d → c ≡ d

-- These bytes are a page with elements at most 260 deep, it has a tree that denotes the content, and each tree that it has
-- denotes the content and no other.
pub record IsReadBack (bytes : List ℕ) (c : Content) : Type 0 where
  pub tree : Tree
  pub is : page bytes 260 tree
  pub says : denotes tree c
  pub only : (t : Tree) → page bytes 260 t → denotes t c × ((d : Content) → denotes t d → d ≡ c)

-- These bytes are a page with elements at most so deep, of a tree that denotes the content.
pub record IsTextOfTree (bytes : List ℕ) (depth : ℕ) (c : Content) : Type 0 where
  pub tree : Tree
  pub is : page bytes depth tree
  pub says : denotes tree c

-- the target begun last gained bytes that are read back to this content
abbrev pub GainsReadBack : Content → Option (List Begun) → Option (List Begun) → Type 0
GainsReadBack c old new = (bytes : List ℕ) × (new ≡ option_map (last_grown bytes) old) × IsReadBack bytes c
