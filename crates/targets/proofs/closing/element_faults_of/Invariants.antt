use Rattle.std.proofs.Common.{◌≡◌, ◌++◌, map, drop}
use Rattle.target_contents.specs.Faults.{element_faults, faults_from}
use Rattle.page_links.specs.Model.{AreSoundFrom, as_paged, set_of}
use Rattle.targets.proofs.closing.element_faults_of.Given as goal

-- the rules that the pages before here break are added, and those from here on are left
abbrev pub invariant-loop-page : goal.invariant-loop-page
invariant-loop-page l = record {
  found : l.found ++ faults_from l.page-index (map as_paged (drop l.page-index l.page-items)) ≡ element_faults (set_of l.pages);
  sound : AreSoundFrom l.page-index (drop l.page-index l.page-items);
}
