use Rattle.std.proofs.Common.{◌≡◌, ◌∙◌, ◌++◌, [], Err, List, Ok, Result, ap, sym}
use Rattle.std.specs.Prelude.{IfOk, OnOk}
use Rattle.std.specs.List.{flat_map}
use Rattle.indexmap.proofs.MapLemmas.{OnOk-map}
use Rattle.ix_base.specs.declared.breach.Found.{Found}
use Rattle.ix_base.specs.declared.rule.Rule.{Rule}
use Rattle.ix_base.specs.declared.rule.Rule.TheVariants as rule
use Rattle.ix_base.specs.Asks.{asks}
use Rattle.ix_base.specs.LinkRules.{breaking}
use Rattle.continuations.specs.Model.{AreChainsOf}
use Rattle.target_contents.specs.Faults.{refs_at}
use Rattle.target_contents.proofs.FitLaws.{both-none}
use Rattle.target_contents.proofs.links.chained.Goals as goal

pub returns-clause-faults : goal.returns-clause-faults
returns-clause-faults c =
    let es = c.args.index.now.spots in
    let on : Rule → List Found = λ r. breaking r es in
    let ids = c.in_ok-doubled.ensures.ok ∙ ap (λ (x : List Found). c.args.found.now ++ x) (c.in_ok-doubled.ensures.chosen c.requires.chosen) in
    let refs = c.in_ok-add_refs.ensures ∙ ap (λ (x : List Found). x ++ flat_map (refs_at (asks es)) es) ids in
    OnOk-map c.link.result _ _ (λ n. n ∙ ap (λ (x : List Found). x ++ on rule.L4 ++ on rule.L5 ++ on rule.L6 ++ on rule.L7) refs) c.link.ensures.breaches

-- where nothing was found, nothing was found by the last of them
none-last : {T E : Type 0} (P : T → Type 0) (new before a b d e : List Found) (r : Result T E) → OnOk r (new ≡ before ++ a ++ b ++ d ++ e)
    → IfOk r (λ x. new ≡ before → P x) → IfOk r (λ x. new ≡ [] → P x)
none-last P new before a b d e (Ok x) is h = λ none.
    let left : (xs ys : List Found) → xs ++ ys ≡ [] → xs ≡ [] = λ xs ys m. (both-none xs ys m).0 in
    h (none ∙ sym (left before a (left (before ++ a) b (left (before ++ a ++ b) d (left (before ++ a ++ b ++ d) e (sym is ∙ none))))))
none-last P new before a b d e (Err x) is h = tt

pub returns-clause-chains : goal.returns-clause-chains
returns-clause-chains c =
    let es = c.args.index.now.spots in
    none-last (λ x. AreChainsOf x es) c.link.new.breaches c.add_refs.new.found (breaking rule.L4 es) (breaking rule.L5 es) (breaking rule.L6 es) (breaking rule.L7 es)
    c.link.result c.link.ensures.breaches c.link.ensures.chains
