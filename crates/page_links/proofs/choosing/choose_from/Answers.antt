use Rattle.std.proofs.Common.{◌≡◌, ◌<◌, ◌≤◌, ◌∙◌, cond, subst, sym, ℕ, List, length, arith}
use Rattle.ix_base.specs.Ids.{holds_id}
use Rattle.ix_base.specs.LocatedElements.{Located, located}
use Rattle.id_table.specs.Model.{chosen}
use Rattle.page_links.specs.Choices.{choice}
use Rattle.page_links.specs.LinkTables.{AreLinks}
use Rattle.page_links.proofs.ChoosingLaws.{apart-choices, chosen-all, chosen-next, spot-at}
use Rattle.page_links.proofs.choosing.choose_from.Goals as goal

pub loop-at-preserved : goal.loop-at-preserved
loop-at-preserved c =
    let es = c.args.index.now.spots in
    let links = c.args.links.now in
    let at = c.loop-at.at in
    let before = c.loop-at.index in
    let after = c.choose_at.new.index in
    let same : before.spots ≡ es = c.loop-at.invariant.spots in
    let from : c.args.first ≤ at = c.loop-at.invariant.from in
    let end : length c.spots-at-end.result.now ≡ length es = c.loop-at.invariant.end in
    let test : at < length c.spots-at-end.result.now = c.loop-at-test.true in
    let below : at < length es = omega arith in
    let spot = c.index-spots-at.result in
    let set = λ (names : ℕ → List ℕ) (are : AreLinks names es links) (q : List ℕ).
    subst (λ (xs : List Located). chosen after q ≡ cond (holds_id q (located spot.now)) (choice names xs q) (chosen before q)) same
    (c.in_ok-choose_at.ensures.choices names (subst (λ (xs : List Located). AreLinks names xs links) (sym same) are) q) in
    record {
      spots = c.in_ok-choose_at.ensures.spots.0 ∙ same;
      unspent = λ u. c.in_ok-choose_at.ensures.spots.1 (c.loop-at.invariant.unspent u);
      from = omega arith;
      end = end;
      choices = λ names are has.
          chosen-next names es c.args.first at (located spot.now) before after (spot-at c.spots.result.now es at spot (c.spots.ensures.elements ∙ same) below c.index-spots-at.is)
          (set names are) (c.loop-at.invariant.choices names are has);
    }

pub returns-clause-choices : goal.returns-clause-choices
returns-clause-choices c = λ names are has.
    let es = c.args.index.now.spots in
    let at = c.loop-at.at in
    let end : length c.spots-at-end.result.now ≡ length es = c.loop-at.invariant.end in
    let test : length c.spots-at-end.result.now ≤ at = c.loop-at-test.false in
    chosen-all names es c.args.first at c.loop-at.index (omega arith) (c.loop-at.invariant.choices names are has)

pub returns-then-not-has_repeats-clause-choices : goal.returns-then-not-has_repeats-clause-choices
returns-then-not-has_repeats-clause-choices c = λ names are has.
    apart-choices names c.args.index.now c.args.first (c.has_repeats.ensures.apart c.if-not-has_repeats.true) has
