use Rattle.std.proofs.Common.{◌∙◌, ◌∷◌, [], ◌++◌, ℕ, List, ap, get_or, take, sym}
use Rattle.std.specs.List.{filter_map}
use Rattle.std.proofs.lemmas.List.Elements.{filter_map-append}
use Rattle.std.specs.Borrow.{Bor}
use Rattle.ix_base.specs.Ids.{unit_for}
use Rattle.target_contents.specs.Visits.{values_of}
use Rattle.target_contents.proofs.AmongLaws.{map-more-at}
use Rattle.target_contents.proofs.parts.units_of.Goals as goal

pub loop-id-preserved : goal.loop-id-preserved
loop-id-preserved c =
    let form = unit_for c.args.index.now.spots in
    let ids = c.args.ids.now in
    let i = c.loop-id.id-index in
    let d : Bor (List ℕ) = record { ref_ptr = (0, 0); now = [] } in
    let before = values_of (take i ids) in
    let here = (get_or ids i d).now ∷ [] in
    c.in_ok-push_unit.ensures ∙ ap (λ l. l ++ filter_map form here) c.loop-id.invariant
    ∙ sym (ap (filter_map form) (map-more-at (λ (x : Bor (List ℕ)). x.now) ids i d c.loop-id-test.true) ∙ filter_map-append form before here)
