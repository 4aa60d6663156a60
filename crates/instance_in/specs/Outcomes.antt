-- What becomes of some bytes on the way to a content.
use Rattle.std.specs.Prelude.{ℕ, List, Option, Some, None}
use Rattle.std.specs.Borrow.{Bor}
use Rattle.ix_base.specs.declared.content.Content.{Content}
use Rattle.ix_base.specs.declared.tree.Element.{Element}
use Rattle.ix_base.specs.Trees.{Tree, tree_of}
use Rattle.instance_out.specs.Theorem.{IsTextOfTree}
use Rattle.page_tree.specs.Page.{page}
use Rattle.instance_in.specs.Texts.{IsTextOf}

-- the root of the tree of a page at most 258 elements deep, or that the bytes are no such page
abbrev pub HasRoot : List ℕ → Option (Bor Element) → Type 0
HasRoot bytes (Some e) = page bytes 258 (tree_of e.now)
HasRoot bytes None = (t : Tree) → page bytes 258 t → ⊥

-- the content that such a page denotes, or that the bytes are none that denotes one
abbrev pub Denotes : List ℕ → Option Content → Type 0
Denotes bytes (Some c) = IsTextOfTree bytes 258 c
Denotes bytes None = (c : Content) → IsTextOfTree bytes 258 c → ⊥

-- the content of which the bytes are the canonical text, or that there is none
abbrev pub HasText : List ℕ → Option Content → Type 0
HasText bytes (Some c) = IsTextOf bytes c
HasText bytes None = (c : Content) → IsTextOf bytes c → ⊥
