-- What the code has built stands for.
use Rattle.std.specs.Prelude.{ℕ, string_bytes, option_map}
use Rattle.ix_base.specs.Trees.{tree_of}
use Rattle.page_tree.specs.Machine.{State}
use Rattle.page_tree.specs.Spaces.{HaveNumbers}
use Rattle.page_tree.specs.Stacks.{frames_of, pages_built, spaces_built, AreAll}
use Rattle.page_tree.specs.declared.tree.Building.{Building}

abbrev pub state_of : Building → State
state_of b = record {
  frames = frames_of b.elements.items;
  text = string_bytes b.text;
  root = option_map (λ e. tree_of e.now) b.root;
  doctyped = b.doctyped;
}

-- each open element, each element built in one, and the root with all that is below it carry this page number, and their namespaces
-- the numbers that they have on the page
pub record IsOnPage (page : ℕ) (b : Building) : Type 0 where
  pub pages : AreAll page (pages_built b.elements.items b.root)
  pub spaces : HaveNumbers b.spaces.numbers (spaces_built b.elements.items b.root)
