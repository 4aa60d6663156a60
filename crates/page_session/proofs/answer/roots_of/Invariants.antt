use Rattle.std.proofs.Common.{◌≡◌, ◌≤◌, ◌++◌, drop, length}
use Rattle.targets.specs.Forest.{AreSoundRoots, trees_of}
use Rattle.page_session.specs.Sessions.{trees_kept}
use Rattle.page_session.proofs.answer.roots_of.Given as goal

-- the trees of the pages before here
abbrev pub invariant-loop-page : goal.invariant-loop-page
invariant-loop-page l = record {
  trees : trees_of l.roots.items ++ trees_kept (drop l.page-index l.kept) ≡ trees_kept l.kept;
  sound : AreSoundRoots 0 l.roots.items;
  few : length l.roots.items ≤ l.page-index;
}
