use Rattle.std.proofs.Common.{◌≡◌, take}
use Rattle.std.specs.List.{filter_map}
use Rattle.target_contents.specs.RoleAddresses.{role_seen}
use Rattle.target_contents.specs.Visits.{values_of}
use Rattle.target_contents.proofs.notes.references_for.Given as goal

-- the references for the URIs before here
abbrev pub invariant-loop-uri : goal.invariant-loop-uri
invariant-loop-uri l = l.references ≡ filter_map (role_seen l.roles) (values_of (take l.uri-index l.uris))
