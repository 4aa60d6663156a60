use Rattle.std.proofs.Common.{◌≡◌, ◌∙◌, ◌+◌, ◌++◌, ◌∷◌, [], ap, append_assoc, subst, sym, take}
use Rattle.std.proofs.lemmas.List.{map-append, take_all, take_more}
use Rattle.std.proofs.lemmas.List.Elements.{All-push}
use Rattle.std.specs.Borrow.{Bor}
use Rattle.ix_base.specs.declared.tree.Spot.{Spot}
use Rattle.ix_base.specs.LocatedElements.{located}
use Rattle.ix_base.specs.Spots.{IsOnOnePage}
use Rattle.id_table.specs.Tables.{AreOnOwnPages, all_located}
use Rattle.tuples.specs.OwnedFacts.{all_seen, seen}
use Rattle.tuples.proofs.slices.push_spots.Goals as goal

pub loop-fact-preserved : goal.loop-fact-preserved
loop-fact-preserved c =
    let facts = c.args.facts.now in
    let fact = c.fact-item.result in
    let i = c.loop-fact.fact-index in
    let before = c.loop-fact.to.items in
    let first = all_located c.args.to.now.items in
    let more : take (i + 1) facts ≡ take i facts ++ fact ∷ [] =
    take_more facts i fact c.loop-fact-test.true ∙ ap (λ f. take i facts ++ f ∷ []) (sym c.fact-item.is) in record {
      spots = ap all_located c.in_ok-push.ensures.items ∙ map-append (λ (s : Bor Spot). located s.now) before (fact.spot ∷ [])
          ∙ ap (λ xs. xs ++ seen fact ∷ []) c.loop-fact.invariant.spots ∙ append_assoc first (all_seen (take i facts)) (seen fact ∷ [])
          ∙ ap (λ xs. first ++ xs) (sym (map-append seen (take i facts) (fact ∷ [])) ∙ ap all_seen (sym more));
      pages = subst AreOnOwnPages (sym c.in_ok-push.ensures.items) (All-push (λ (s : Bor Spot). IsOnOnePage s.now) before fact.spot c.loop-fact.invariant.pages fact.on_page);
    }

pub returns-clause-spots : goal.returns-clause-spots
returns-clause-spots c =
    c.loop-fact.invariant.spots
    ∙ ap (λ fs. all_located c.args.to.now.items ++ all_seen fs) (take_all c.loop-fact.fact-index c.args.facts.now c.loop-fact-test.false)
