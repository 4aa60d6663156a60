use Rattle.std.proofs.Common.{◌≡◌, ◌∙◌, ap, sym, subst, false, length, List, Some, ℕ, option_map}
use Rattle.std.proofs.lemmas.Result.{IfOk-weaker}
use Rattle.std.specs.Borrow.{Bor}
use Rattle.std.specs.List.{filter, slice_get}
use Rattle.std.specs.Option.{option_map_or}
use Rattle.ix_base.specs.declared.tree.Spot.{Spot}
use Rattle.ix_base.specs.Chain.{continuation}
use Rattle.ix_base.specs.Ids.{holds_id}
use Rattle.ix_base.specs.LocatedElements.{Located, located, is_continuation}
use Rattle.id_table.specs.Model.{asked}
use Rattle.continuations.specs.Numbers.{AreNumbers}
use Rattle.continuations.proofs.Numbering.{count-elements, named-is, number-is}
use Rattle.continuations.proofs.numbers.number_sought.Goals as goal

pub returns-then-has_id-clause-number : goal.returns-then-has_id-clause-number
returns-then-has_id-clause-number c =
    let one : continuation (asked c.args.index.now) c.args.id.now ≡ Some (located c.in-Some.spot.now)
    = sym c.continuation.ensures ∙ ap (option_map (λ (s : Bor Spot). located s.now)) c.in-Some.is in
    ap Some (named-is c.args.index.now.spots c.args.id.now c.count_before-number.result (located c.in-Some.spot.now) one
    (ap (λ (xs : List Located). option_map_or (holds_id c.args.id.now) (slice_get xs c.count_before-number.result) false) (sym c.requires.continuations) ∙ sym c.has_id.ensures ∙ c.if-has_id.true))
    ∙ ap (option_map Some) (sym one)

pub returns-clause-number : goal.returns-clause-number
returns-clause-number c =
    let one : continuation (asked c.args.index.now) c.args.id.now ≡ Some (located c.in-Some.spot.now)
    = sym c.continuation.ensures ∙ ap (option_map (λ (s : Bor Spot). located s.now)) c.in-Some.is in
    let many : length c.args.continuations.now ≡ length (filter is_continuation c.args.index.now.spots)
    = sym (count-elements c.args.continuations.now) ∙ ap length c.requires.continuations in
    IfOk-weaker c.number_in.result _ _
    (λ n h. number-is h.0 c.args.index.now.spots c.args.id.now (located c.in-Some.spot.now) n
    (subst (λ (k : ℕ). AreNumbers h.0 (filter is_continuation c.args.index.now.spots) k) many
    (subst (λ (xs : List Located). AreNumbers h.0 xs (length c.args.continuations.now)) c.requires.continuations h.1)) one h.2
    ∙ ap (option_map Some) (sym one))
    c.number_in.ensures.number
