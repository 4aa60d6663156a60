use Rattle.std.proofs.Common.{◌≡◌, ◌++◌, drop, length, map}
use Rattle.targets.specs.Forest.{AreSoundRoots, paged, trees_of}
use Rattle.page_links.specs.Model.{AreSoundFrom, as_paged}
use Rattle.targets.proofs.at_once.pages_of.Given as goal

-- the pages before here are made
abbrev pub invariant-loop-name : goal.invariant-loop-name
invariant-loop-name l = record {
  count : length l.pages.items ≡ length l.yielded;
  pages : map as_paged l.pages.items ++ paged (drop (length l.yielded) l.names) (trees_of (drop (length l.yielded) l.roots)) ≡ paged l.names (trees_of l.roots);
  sound : AreSoundFrom 0 l.pages.items;
  left : AreSoundRoots (length l.yielded) (drop (length l.yielded) l.roots);
}
