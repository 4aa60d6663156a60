use Rattle.std.proofs.Common.{◌∙◌, ◌++◌, ◌∷◌, [], ap, sym, take, List}
use Rattle.std.proofs.lemmas.List.{take_more}
use Rattle.std.proofs.lemmas.List.Elements.{filter-append}
use Rattle.std.specs.List.{filter}
use Rattle.tuples.specs.declared.fact.Fact.{Fact}
use Rattle.tuples.specs.OwnedFacts.{is_owned_at}
use Rattle.tuples.proofs.groups.entered.Goals as goal

pub loop-fact-preserved : goal.loop-fact-preserved
loop-fact-preserved c = λ page offset.
    let facts = c.args.facts.now in
    let i = c.loop-fact.fact-index in
    let f = c.fact-item.result in
    let p = is_owned_at page offset in
    c.in_ok-enter.ensures page offset
    ∙ ap (λ (xs : List Fact). xs ++ filter p (f ∷ [])) (c.loop-fact.invariant page offset)
    ∙ sym (filter-append p (take i facts) (f ∷ []))
    ∙ ap (filter p) (sym (take_more facts i f c.loop-fact-test.true ∙ ap (λ (x : Fact). take i facts ++ x ∷ []) (sym c.fact-item.is)))
