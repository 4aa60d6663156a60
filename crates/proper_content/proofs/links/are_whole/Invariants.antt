use Rattle.std.proofs.Common.{◌≡◌, drop}
use Rattle.std.specs.List.{list_all}
use Rattle.instance_out.specs.Proper.{is_whole_link}
use Rattle.proper_content.proofs.links.are_whole.Given as goal

abbrev pub invariant-loop-link : goal.invariant-loop-link
invariant-loop-link l = list_all (is_whole_link l.facts) (drop l.link-index l.links) ≡ list_all (is_whole_link l.facts) l.links
