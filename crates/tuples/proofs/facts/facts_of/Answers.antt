use Rattle.std.proofs.Common.{◌≡◌, ◌∙◌, ap, true}
use Rattle.std.proofs.lemmas.List.{take_all}
use Rattle.std.proofs.lemmas.List.Elements.{All-filter}
use Rattle.std.specs.List.{filter}
use Rattle.ix_base.specs.LocatedElements.{is_fact}
use Rattle.id_table.proofs.OnPages.{on_page-at}
use Rattle.id_table.proofs.Sorting.{filter-within}
use Rattle.id_table.specs.Tables.{all_located}
use Rattle.tuples.specs.OrderNumbers.{fits}
use Rattle.tuples.specs.OwnedFacts.{all_seen}
use Rattle.tuples.proofs.Each.{facts-more, fits-at}
use Rattle.tuples.proofs.facts.facts_of.Goals as goal

pub push_if_fact-requires : goal.push_if_fact-requires
push_if_fact-requires c =
    let facts = c.facts-spot-items.result.now in
    let i = c.loop-spot.spot-index in record {
      fits = fits-at facts (filter is_fact c.args.index.now.spots) i c.spot-item.result c.facts-spot-items.ensures.elements c.loop-spot-test.true
          (All-filter is_fact (λ e. fits e ≡ true) c.args.index.now.spots c.requires.fits) c.spot-item.is;
      page = on_page-at facts i c.spot-item.result c.loop-spot-test.true c.spot-item.is c.facts-spot-items.ensures.pages;
      known = c.loop-spot.invariant.known;
    }

pub returns-clause-seen : goal.returns-clause-seen
returns-clause-seen c =
    let facts = c.facts-spot-items.result.now in
    c.loop-spot.invariant.seen
    ∙ ap (filter is_fact) (ap all_located (take_all c.loop-spot.spot-index facts c.loop-spot-test.false) ∙ c.facts-spot-items.ensures.elements)
    ∙ filter-within is_fact is_fact (λ e h. h) c.args.index.now.spots

pub loop-spot-preserved : goal.loop-spot-preserved
loop-spot-preserved c = record {
  seen = facts-more c.facts-spot-items.result.now c.loop-spot.spot-index c.spot-item.result (all_seen c.loop-spot.facts.items) _
      c.loop-spot-test.true c.spot-item.is c.loop-spot.invariant.seen c.in_ok-push_if_fact.ensures.seen;
  known = c.in_ok-push_if_fact.ensures.known;
}
