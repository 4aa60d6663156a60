use Rattle.std.proofs.Common.{◌≡◌, subst, unwrap_or}
use Rattle.std.specs.Result.{IfOk}
use Rattle.scopes.proofs.SpotLemmas.{along_spot}
use Rattle.scopes.proofs.base.+own_along.Goals as goal

pub returns-in_ok-above-in-Some : goal.returns-in_ok-above-in-Some
returns-in_ok-above-in-Some t c =
    subst (λ x. IfOk c.own_within.result (λ own. unwrap_or own c.args.page.now ≡ x))
    (along_spot c.args.page.now (unwrap_or c.in_ok-above-in-Some.above c.args.page.now) c.args.spot c.in-Some.spot _ c.in-Some.is
    c.in_ok-above-in-Some.ensures c.xml_base.ensures)
    c.own_within.ensures
