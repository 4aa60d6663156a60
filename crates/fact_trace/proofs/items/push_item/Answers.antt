use Rattle.std.proofs.Common.{◌≡◌, ◌++◌, ap, map, subst, sym, All, OnOk, codes}
use Rattle.std.specs.List.{flat_map}
use Rattle.ix_base.specs.Asks.{asks}
use Rattle.ix_base.specs.LocatedElements.{located}
use Rattle.id_table.specs.Tables.{all_located}
use Rattle.fact_trace.specs.Model.{IsText, sources_of}
use Rattle.fact_trace.specs.Spans.{elements, lying_at, spans_in, text_elements_as}
use Rattle.fact_trace.proofs.TextLaws.{are-parts, chain-texts, has-chain, is-number, is-text, same-chain}
use Rattle.fact_trace.proofs.items.push_item.Goals as goal

pub of-requires : goal.of-requires
of-requires c =
    has-chain c.args.chains.now (elements (sources_of c.args.pages.now)) (located c.args.spot.now) c.requires.apart c.requires.chains c.requires.there c.in-NonNumeric.ensures

pub push_chain-requires : goal.push_chain-requires
push_chain-requires c =
    let ps = sources_of c.args.pages.now in
    let e = located c.args.spot.now in
    let same = same-chain c.args.chains.now (elements ps) e (all_located c.of.result.now) c.requires.apart c.requires.chains c.requires.there c.in-NonNumeric.ensures c.of.ensures.chain in
    subst (All (λ x. IsText ps (lying_at x))) same (chain-texts c.args.pages.now e c.requires.pages c.requires.there)

pub push_fraction-requires-clause-numerator : goal.push_fraction-requires-clause-numerator
push_fraction-requires-clause-numerator c =
    are-parts (sources_of c.args.pages.now) (codes "numerator") (located c.args.spot.now) (is-text c.args.pages.now (located c.args.spot.now) c.requires.pages c.requires.there)

pub push_fraction-requires-clause-denominator : goal.push_fraction-requires-clause-denominator
push_fraction-requires-clause-denominator c =
    are-parts (sources_of c.args.pages.now) (codes "denominator") (located c.args.spot.now) (is-text c.args.pages.now (located c.args.spot.now) c.requires.pages c.requires.there)

pub push_number-requires : goal.push_number-requires
push_number-requires c = is-number (sources_of c.args.pages.now) (located c.args.spot.now) (is-text c.args.pages.now (located c.args.spot.now) c.requires.pages c.requires.there)

pub returns-in-NonNumeric : goal.returns-in-NonNumeric
returns-in-NonNumeric c =
    let ps = sources_of c.args.pages.now in
    let e = located c.args.spot.now in
    let same = same-chain c.args.chains.now (elements ps) e (all_located c.of.result.now) c.requires.apart c.requires.chains c.requires.there c.in-NonNumeric.ensures c.of.ensures.chain in
    let due = ap (map lying_at) (sym same) in
    let kinds = ap (λ k. text_elements_as k (asks (elements ps)) e) c.in-NonNumeric.ensures in
    subst (λ l. OnOk c.push_chain.result (c.push_chain.new.spans ≡ c.args.spans.now ++ flat_map (spans_in ps) l)) kinds
    (subst (λ l. OnOk c.push_chain.result (c.push_chain.new.spans ≡ c.args.spans.now ++ flat_map (spans_in ps) l)) due c.push_chain.ensures)
