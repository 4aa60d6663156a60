use Rattle.std.proofs.Common.{◌≡◌, take}
use Rattle.std.specs.List.{flat_map}
use Rattle.target_contents.specs.Contents.{roles_in}
use Rattle.target_contents.specs.Visits.{values_of}
use Rattle.target_contents.proofs.notes.each_role.Given as goal

-- the roles of the links before here
abbrev pub invariant-loop-link : goal.invariant-loop-link
invariant-loop-link l = values_of l.uris.items ≡ flat_map roles_in (take l.link-index l.links)
