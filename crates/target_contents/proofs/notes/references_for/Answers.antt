use Rattle.std.proofs.Common.{◌∷◌, [], ℕ, List, get_or, take}
use Rattle.std.specs.Borrow.{Bor}
use Rattle.target_contents.specs.RoleAddresses.{role_seen}
use Rattle.target_contents.specs.Visits.{values_of}
use Rattle.target_contents.proofs.AmongLaws.{looked-more, map-more-at}
use Rattle.target_contents.proofs.notes.references_for.Goals as goal

pub loop-uri-preserved : goal.loop-uri-preserved
loop-uri-preserved c =
    let uris = c.args.uris.now in
    let i = c.loop-uri.uri-index in
    let d : Bor (List ℕ) = record { ref_ptr = (0, 0); now = [] } in
    looked-more (role_seen c.args.roles.now) (values_of (take i uris)) _ ((get_or uris i d).now ∷ []) _ _
    (map-more-at (λ (x : Bor (List ℕ)). x.now) uris i d c.loop-uri-test.true) c.loop-uri.invariant c.in_ok-push_reference.ensures
