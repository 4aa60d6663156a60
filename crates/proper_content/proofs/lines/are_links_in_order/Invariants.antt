use Rattle.std.proofs.Common.{◌≡◌, drop}
use Rattle.std.specs.List.{list_all}
use Rattle.instance_out.specs.Proper.{link_in_order}
use Rattle.proper_content.proofs.lines.are_links_in_order.Given as goal

abbrev pub invariant-loop-link : goal.invariant-loop-link
invariant-loop-link l = list_all link_in_order (drop l.link-index l.links) ≡ list_all link_in_order l.links
