use Rattle.std.proofs.Common.{◌≡◌, ◌∙◌, true, subst, sym, rules}
use Rattle.std.specs.List.{All}
use Rattle.tuples.specs.OrderNumbers.{fits}
use Rattle.tuples.proofs.FitLaws.{all-fit}
use Rattle.page_rows.proofs.members.said_by.Goals as goal

pub membership-requires : goal.membership-requires
membership-requires c =
    let is : c.are_fit.result ≡ true = search rules in
    record { fits = subst (All (λ e. fits e ≡ true)) c.spots.ensures.elements (all-fit c.spots.result.now (sym c.are_fit.ensures ∙ is)) }
