use Rattle.std.proofs.Common.{◌≡◌, ◌∙◌, ◌++◌, [], List, ap, subst, sym}
use Rattle.std.specs.List.{flat_map}
use Rattle.ix_base.specs.declared.breach.Found.{Found}
use Rattle.ix_base.specs.declared.rule.Rule.{Rule}
use Rattle.ix_base.specs.declared.rule.Rule.TheVariants as rule
use Rattle.ix_base.specs.Asks.{asks}
use Rattle.ix_base.specs.LinkRules.{breaking, broken}
use Rattle.ix_base.specs.LocatedElements.{base_in}
use Rattle.ix_base.specs.Once.{SameMembers}
use Rattle.target_contents.specs.Faults.{redirected_at, refs_at}
use Rattle.target_contents.proofs.FitLaws.{both-none}
use Rattle.target_contents.proofs.LinkLaws.{same-broken}
use Rattle.target_contents.proofs.links.link_all.Goals as goal

pub returns-clause-faults : goal.returns-clause-faults
returns-clause-faults c =
    let es = c.args.index.now.spots in
    let bases = base_in c.args.bases.now.pages in
    let on : Rule → List Found = λ r. breaking r es in
    let chains = c.in_ok-chains.ensures.faults
    ∙ ap (λ (x : List Found). x ++ on rule.L1 ++ flat_map (refs_at (asks es)) es ++ on rule.L4 ++ on rule.L5 ++ on rule.L6 ++ on rule.L7) c.requires.none in
    let all = c.in_ok-members.ensures.faults
    ∙ ap (λ (x : List Found). x ++ on rule.L8 ++ on rule.L9 ++ on rule.L10 ++ on rule.L12 ++ on rule.L13 ++ on rule.L11 ++ on rule.L15 ++ on rule.L16
    ++ on rule.L14 ++ flat_map (redirected_at bases (asks es)) es) chains in
    subst (λ (xs : List Found). SameMembers xs (broken bases es)) (sym all) (same-broken bases es)

pub returns-clause-chains : goal.returns-clause-chains
returns-clause-chains c = λ none.
    let left : (xs ys : List Found) → xs ++ ys ≡ [] → xs ≡ [] = λ xs ys h. (both-none xs ys h).0 in
    let ties = sym c.in_ok-members.ensures.faults ∙ none in
    let chains = left _ _ (left _ _ (left _ _ (left _ _ (left _ _ (left _ _ (left _ _ (left _ _ (left _ _ (left _ _ ties))))))))) in
    c.in_ok-chains.ensures.chains chains
