use Rattle.std.proofs.Common.{◌≡◌, map, take}
use Rattle.std.specs.List.{flat_map}
use Rattle.page_verdicts.specs.Summary.{link_ids}
use Rattle.ixds_run.proofs.summary.ids_in.Given as goal

abbrev pub invariant-loop-link : goal.invariant-loop-link
invariant-loop-link l = map (λ s. s.now) l.ids.items ≡ flat_map link_ids (take l.link-index l.links)
