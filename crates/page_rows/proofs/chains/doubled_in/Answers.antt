use Rattle.std.proofs.Common.{◌≡◌, ◌∙◌, ◌<◌, ℕ, true, List, ◌++◌, ap, length, subst, sym, rules}
use Rattle.std.specs.Prelude.{All, nat_lt}
use Rattle.std.specs.Borrow.{Bor}
use Rattle.std.specs.List.{flat_map, list_all}
use Rattle.ix_base.specs.declared.breach.Found.{Found}
use Rattle.ix_base.specs.declared.tree.Spot.{Spot}
use Rattle.ix_base.specs.LocatedElements.{located}
use Rattle.id_table.specs.Model.{Held, doubled_at}
use Rattle.page_rows.proofs.FoundRows.{all-within, doubled-within}
use Rattle.page_rows.proofs.chains.doubled_in.Goals as goal

pub lines_of-requires : goal.lines_of-requires
lines_of-requires c =
    let count = length c.args.names.now in
    let P : List Found → Type 0 = λ fs. All (λ f. f.place.page < count) fs in
    let es = c.args.index.now.spots in
    let is : c.are_within.result ≡ true = search rules in
    let within = subst (All (λ e. e.page < count)) c.spots.ensures.elements (all-within count c.spots.result.now (sym c.are_within.ensures ∙ is)) in
    let h : Held = c.args.index.now in
    let found : c.doubled.new.breaches ≡ flat_map (doubled_at h) es = c.in_ok-doubled.ensures.ok ∙ ap (λ (b : List Found). b ++ flat_map (doubled_at h) es) c.new-breaches.ensures in
    subst P (sym found) (doubled-within h count within)
