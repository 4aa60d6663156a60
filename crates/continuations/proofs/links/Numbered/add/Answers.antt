use Rattle.std.proofs.Common.{◌∙◌, ap, ◌∷◌, ◌++◌, ◌||◌, [], Option, Some, option_map}
use Rattle.std.proofs.lemmas.List.{map-append}
use Rattle.std.specs.List.{filter, slice_get}
use Rattle.std.specs.Prelude.{option_and_then}
use Rattle.ix_base.specs.Chain.{continuation}
use Rattle.ix_base.specs.LocatedElements.{Located, is_continuation}
use Rattle.id_table.specs.Model.{asked}
use Rattle.continuations.specs.Numbers.{numbered_in}
use Rattle.continuations.proofs.LinkLaws.{lost-is}
use Rattle.continuations.proofs.links.Numbered.add.Goals as goal

pub returns-clause-nexts : goal.returns-clause-nexts
returns-clause-nexts c =
    let a = asked c.args.index.now in
    let conts = filter is_continuation c.args.index.now.spots in
    ap (numbered_in conts) c.in_ok-push.ensures.items ∙ map-append (option_map (slice_get conts)) c.args.self.now.nexts.items (c.in_ok-next.next ∷ [])
    ∙ ap (λ (o : Option (Option Located)). numbered_in conts c.args.self.now.nexts.items ++ o ∷ [])
    (c.in_ok-next.ensures.number ∙ ap (λ o. option_map Some (option_and_then (continuation a) o)) c.args.element.now.goes_on)

pub returns-clause-lacks : goal.returns-clause-lacks
returns-clause-lacks c =
    ap (λ b. c.args.self.now.lacks || b)
    (c.is_lost.ensures ∙ lost-is (asked c.args.index.now) (filter is_continuation c.args.index.now.spots) c.args.element.now c.in_ok-next.next c.in_ok-next.ensures.number)
