use Rattle.std.proofs.Common.{◌≡◌, ◌∙◌, ◌<◌, ap, arith, sym, length, option_map, Some}
use Rattle.std.proofs.lemmas.List.{length-map, take_all}
use Rattle.std.specs.Borrow.{Bor}
use Rattle.std.specs.List.{slice_get}
use Rattle.ix_base.specs.declared.tree.Spot.{Spot}
use Rattle.ix_base.specs.Chain.{chain}
use Rattle.ix_base.specs.LocatedElements.{Located, located}
use Rattle.id_table.specs.Model.{asked}
use Rattle.id_table.specs.Tables.{all_located}
use Rattle.continuations.specs.ChainStarts.{first_start}
use Rattle.continuations.specs.Model.{chain_at}
use Rattle.continuations.proofs.Numbering.{got-at}
use Rattle.continuations.proofs.StartLaws.{first-of-both, first-of-none, start-more}
use Rattle.continuations.proofs.chains.kept_chains.Goals as goal

pub loop-number-preserved : goal.loop-number-preserved
loop-number-preserved c = λ page offset.
    let l = c.args.links.now in
    let xs = all_located l.spots.items in
    let many : length xs ≡ length l.spots.items = length-map l.spots.items (λ (s : Bor Spot). located s.now) in
    let within : c.loop-number.number < length xs = omega (arith, many, l.spots.ok.0, c.len-number-end.ensures, c.loop-number-test.true) in
    let at : (e : Located) × (slice_get xs c.loop-number.number ≡ Some e) = got-at xs c.loop-number.number within in
    start-more (chain (asked c.args.index.now)) page offset (chain_at c.loop-number.kept page offset) (chain_at c.enter_chain.new.kept page offset) c.args.index.now.spots xs
    l.continuations c.loop-number.number at.0 c.requires.spots c.requires.counted c.loop-number.auto.number at.1
    (c.loop-number.invariant page offset) (c.in_ok-enter_chain.ensures at.0 at.1 page offset)

pub loop-number-init : goal.loop-number-init
loop-number-init c = λ page offset.
    ap (λ cs. chain_at cs page offset) c.in_ok-kept.ensures
    ∙ sym (ap (option_map (chain (asked c.args.index.now)))
    (first-of-none page offset c.args.index.now.spots (all_located c.args.links.now.spots.items) c.args.links.now.continuations c.requires.spots c.requires.counted))

pub returns : goal.returns
returns c = λ page offset.
    let l = c.args.links.now in
    let xs = all_located l.spots.items in
    let many : length xs ≡ length l.spots.items = length-map l.spots.items (λ (s : Bor Spot). located s.now) in
    c.loop-number.invariant page offset
    ∙ ap (λ ys. option_map (chain (asked c.args.index.now)) (first_start page offset ys))
    (take_all c.loop-number.number xs (omega (arith, many, l.spots.ok.0, c.len-number-end.ensures, c.loop-number-test.false)))
    ∙ ap (option_map (chain (asked c.args.index.now))) (first-of-both page offset c.args.index.now.spots xs c.requires.spots)
