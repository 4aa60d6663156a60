use Rattle.std.proofs.Common.{◌≡◌, ◌∙◌, ◌+◌, length, refl, sym, ℕ, Some}
use Rattle.std.proofs.lemmas.Option.{slice_get_read}
use Rattle.std.specs.List.{slice_get}
use Rattle.std.specs.Prelude.{slice_index_or}
use Rattle.continuations.proofs.PlaceLaws.{found-where}
use Rattle.continuations.proofs.by_place.find_noted.Goals as goal

pub returns-then-eq : goal.returns-then-eq
returns-then-eq c =
    let xs = c.args.chains.now in
    let n : ℕ = slice_index_or c.args.hints.now (c.slot_of-first.result + c.loop-step.step) 0 in
    let at : slice_get xs n ≡ Some c.index-chains-number.result
    = slice_get_read xs (length xs) n c.index-chains-number.result refl c.if-number-chains.false c.index-chains-number.is in
    found-where c.args.place.0 c.args.place.1 xs n c.index-chains-number.result c.requires at (sym c.eq.ensures ∙ c.if-eq.true)
