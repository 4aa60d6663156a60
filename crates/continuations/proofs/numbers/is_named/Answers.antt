use Rattle.std.proofs.Common.{◌≡◌, ◌∙◌, refl, ap, sym, true, false, List, Bool}
use Rattle.std.specs.Prelude.{not}
use Rattle.std.specs.List.{slice_get}
use Rattle.std.specs.Option.{option_map_or}
use Rattle.ix_base.specs.Ids.{holds_id}
use Rattle.ix_base.specs.LocatedElements.{Located}
use Rattle.id_table.specs.Model.{IsApart}
use Rattle.continuations.proofs.Numbering.{named-alone, named-known}
use Rattle.continuations.proofs.numbers.is_named.Goals as goal

untrue : (b : Bool) → not b ≡ true → b ≡ false
untrue true h = absurd (let z : false ≡ true = h in cc)
untrue false h = refl

pub returns-then-not-has_repeats : goal.returns-then-not-has_repeats
returns-then-not-has_repeats c = λ h.
    let apart : IsApart c.args.index.now = c.has_repeats.ensures.apart (untrue c.has_repeats.result h) in
    named-alone c.args.index.now.spots c.args.id.now c.args.number (apart.ids c.args.id.now)
    (ap (λ (xs : List Located). option_map_or (holds_id c.args.id.now) (slice_get xs c.args.number) false) (sym c.requires) ∙ sym c.has_id.ensures ∙ c.if-not-has_id.false)

pub returns-else-not-has_repeats : goal.returns-else-not-has_repeats
returns-else-not-has_repeats c = λ h.
    named-known c.args.index.now.spots c.args.id.now c.args.number c.continuation.result (sym c.is_some.ensures ∙ h) c.continuation.ensures
    (ap (λ (xs : List Located). option_map_or (holds_id c.args.id.now) (slice_get xs c.args.number) false) (sym c.requires) ∙ sym c.has_id.ensures ∙ c.if-not-has_id.false)
