use Rattle.std.proofs.Common.{◌≡◌, ◌∙◌, ◌-◌, ◌<◌, ap, arith, length, refl, sym, ℕ, Some}
use Rattle.std.proofs.lemmas.Option.{slice_get_read, slice_get_within}
use Rattle.std.specs.List.{slice_get}
use Rattle.std.specs.Ordering.{is_lt}
use Rattle.id_table.specs.declared.slice.Slice.{Slice}
use Rattle.continuations.specs.Nesting.{key_cmp}
use Rattle.continuations.proofs.PlaceLaws.{before-more}
use Rattle.continuations.proofs.by_place.is_next.Goals as goal

pub returns-else-count-eq0-clause-behind : goal.returns-else-count-eq0-clause-behind
returns-else-count-eq0-clause-behind c = λ h i x s.
    let xs = c.args.front.now in
    let last : ℕ = length xs - 1 in
    let some : (length xs ≡ 0) → ⊥ = c.if-count-eq0.false in
    let l : last < length xs = omega (arith, some) in
    let within : i < length xs = slice_get_within xs i x s in
    let at : slice_get xs last ≡ Some c.index-front-count.result
    = slice_get_read xs (length xs) last c.index-front-count.result refl l c.index-front-count.is in
    before-more xs c.args.place last c.index-front-count.result c.requires at
    (ap (λ (e : (ℕ × ℕ) × Slice). is_lt (key_cmp e.0 c.args.place)) c.index-front-count.is ∙ sym c.is_before.ensures ∙ h)
    i x (omega (arith, l, within)) s
