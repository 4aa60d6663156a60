use Rattle.std.proofs.Common.{◌≡◌, ◌∙◌, arith, length, refl, sym, Some}
use Rattle.std.proofs.lemmas.Option.{slice_get_read}
use Rattle.std.specs.List.{slice_get}
use Rattle.continuations.proofs.PlaceLaws.{found-at, none-at-first, none-behind}
use Rattle.continuations.proofs.by_place.find_by_halving.Goals as goal

pub returns-then-number-chains : goal.returns-then-number-chains
returns-then-number-chains c =
    sym (none-behind c.args.place.0 c.args.place.1 c.args.chains.now c.count_before-number.result c.if-number-chains.true c.count_before-number.ensures.before)

pub returns-then-eq : goal.returns-then-eq
returns-then-eq c =
    let xs = c.args.chains.now in
    let n = c.count_before-number.result in
    let at : slice_get xs n ≡ Some c.index-chains-number.result
    = slice_get_read xs (length xs) n c.index-chains-number.result refl c.if-number-chains.false c.index-chains-number.is in
    sym (found-at c.args.place.0 c.args.place.1 xs n c.index-chains-number.result at c.count_before-number.ensures.before (sym c.eq.ensures ∙ c.if-eq.true))

pub returns-else-eq : goal.returns-else-eq
returns-else-eq c =
    let xs = c.args.chains.now in
    let n = c.count_before-number.result in
    let at : slice_get xs n ≡ Some c.index-chains-number.result
    = slice_get_read xs (length xs) n c.index-chains-number.result refl c.if-number-chains.false c.index-chains-number.is in
    sym (none-at-first c.args.place.0 c.args.place.1 xs n c.index-chains-number.result c.requires at c.count_before-number.ensures.before
    (c.count_before-number.ensures.behind n c.index-chains-number.result (omega arith) at) (sym c.eq.ensures ∙ c.if-eq.false))
