use Rattle.ix_base.specs.Trees.{tree_of}
use Rattle.page_tree.proofs.SoundPages.{page-sound}
use Rattle.page_tree.proofs.laws.sound_tree.Goals as goal

pub returns-clause-tree : goal.returns-clause-tree
returns-clause-tree c = page-sound

pub returns-clause-root : goal.returns-clause-root
returns-clause-root c = λ b n number e is pages spaces. record { tree = page-sound b n (tree_of e) is; pages = pages; spaces = spaces }
