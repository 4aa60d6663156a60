use Rattle.std.proofs.Common.{◌∙◌, ap, sym, refl, []}
use Rattle.std.proofs.lemmas.List.{take_all}
use Rattle.std.specs.List.{list_any}
use Rattle.std.specs.Option.{option_map_or}
use Rattle.tuples.specs.MemberTables.{members_at}
use Rattle.tuples.specs.OwnedFacts.{is_owned_at}
use Rattle.id_table.specs.Slices.{put_first}
use Rattle.tuples.proofs.SliceLaws.{kept_if, kept-more, any-more, listed-is}
use Rattle.tuples.proofs.slices.slices_of.Goals as goal

pub loop-fact-preserved : goal.loop-fact-preserved
loop-fact-preserved c = λ page offset.
    let w = members_at c.args.index.now.spots page offset in
    let p = is_owned_at page offset in
    c.in_ok-enter.ensures page offset
    ∙ ap (λ o. put_first o (p c.fact-item.result) w) (c.loop-fact.invariant page offset)
    ∙ kept-more _ (p c.fact-item.result) w
    ∙ ap (λ b. kept_if b w) (sym (any-more p c.args.facts.now c.loop-fact.fact-index c.fact-item.result c.loop-fact-test.true c.fact-item.is))

pub returns : goal.returns
returns c = λ page offset.
    let p = is_owned_at page offset in
    let w = members_at c.args.index.now.spots page offset in
    ap (λ o. option_map_or (λ l. l) o []) (c.loop-fact.invariant page offset
    ∙ ap (λ fs. kept_if (list_any p fs) w) (take_all c.loop-fact.fact-index c.args.facts.now c.loop-fact-test.false))
    ∙ listed-is c.args.index.now.spots c.args.facts.now page offset (list_any p c.args.facts.now) refl c.requires.seen c.requires.known
