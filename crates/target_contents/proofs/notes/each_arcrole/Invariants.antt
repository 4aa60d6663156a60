use Rattle.std.proofs.Common.{◌≡◌, take}
use Rattle.std.specs.List.{flat_map}
use Rattle.target_contents.specs.Contents.{arcroles_in}
use Rattle.target_contents.specs.Visits.{values_of}
use Rattle.target_contents.proofs.notes.each_arcrole.Given as goal

-- the arcroles of the links before here
abbrev pub invariant-loop-link : goal.invariant-loop-link
invariant-loop-link l = values_of l.uris.items ≡ flat_map arcroles_in (take l.link-index l.links)
