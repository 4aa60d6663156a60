-- A page of what is shown and of nothing else.
use Rattle.std.specs.Prelude.{◌≡◌, ℕ, true, List, None}
use Rattle.ix_base.specs.declared.limits.TheConstants.{DEEPEST_ELEMENT}
use Rattle.ix_base.specs.Trees.{Tree}
use Rattle.page_tree.specs.Break.{w}
use Rattle.page_tree.specs.Page.{page}
use Rattle.page_plain.specs.Bare.{Shown, shown_of, is_plain}

-- The bytes break no rule of page text. They have one tree, which has these names, attributes and texts, and none of its
-- names is in the namespace of Inline XBRL.
pub record IsPageOf (bytes : List ℕ) (what : Shown) : Type 0 where
  pub unbroken : w bytes DEEPEST_ELEMENT ≡ None
  pub tree : Tree
  pub is_page : page bytes DEEPEST_ELEMENT tree
  pub only : (other : Tree) → page bytes DEEPEST_ELEMENT other → other ≡ tree
  pub shown : shown_of tree ≡ what
  pub plain : is_plain what ≡ true
