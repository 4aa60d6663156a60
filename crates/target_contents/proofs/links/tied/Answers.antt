use Rattle.std.proofs.Common.{◌∙◌, ◌++◌, List, ap}
use Rattle.std.specs.List.{flat_map}
use Rattle.ix_base.specs.declared.breach.Found.{Found}
use Rattle.ix_base.specs.declared.rule.Rule.{Rule}
use Rattle.ix_base.specs.declared.rule.Rule.TheVariants as rule
use Rattle.ix_base.specs.Asks.{asks}
use Rattle.ix_base.specs.LinkRules.{breaking}
use Rattle.ix_base.specs.LocatedElements.{base_in}
use Rattle.target_contents.specs.Faults.{redirected_at}
use Rattle.target_contents.proofs.links.tied.Goals as goal

pub returns-clause-faults : goal.returns-clause-faults
returns-clause-faults c =
    let es = c.args.index.now.spots in
    let on : Rule → List Found = λ r. breaking r es in
    let ties = c.in_ok-relations.ensures.breaches ∙ ap (λ (x : List Found). x ++ on rule.L11 ++ on rule.L15 ++ on rule.L16) c.in_ok-members.ensures.breaches in
    c.in_ok-seen_roles.ensures.faults
    ∙ ap (λ (x : List Found). x ++ on rule.L14 ++ flat_map (redirected_at (base_in c.args.bases.now.pages) (asks es)) es) ties
