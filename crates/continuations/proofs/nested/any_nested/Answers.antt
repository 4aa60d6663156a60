use Rattle.std.proofs.Common.{◌≡◌, ◌∙◌, ◌<◌, ap, sym, arith, length, Some, ⊎_elim}
use Rattle.std.proofs.lemmas.Bool.{cases_eq}
use Rattle.std.proofs.lemmas.List.{length-map}
use Rattle.std.specs.Borrow.{Bor}
use Rattle.std.specs.List.{slice_get}
use Rattle.ix_base.specs.declared.tree.Spot.{Spot}
use Rattle.ix_base.specs.Chain.{chain}
use Rattle.ix_base.specs.LocatedElements.{Located, located}
use Rattle.id_table.specs.Model.{asked}
use Rattle.id_table.specs.Tables.{all_located}
use Rattle.continuations.specs.Nesting.{is_nested}
use Rattle.continuations.proofs.Numbering.{got-at}
use Rattle.continuations.proofs.ReachLaws.{no-start-passes, start-passes}
use Rattle.continuations.proofs.nested.any_nested.Goals as goal

pub returns-then-branch : goal.returns-then-branch
returns-then-branch c =
    let l = c.args.links.now in
    let a = asked c.args.index.now in
    let xs = all_located l.spots.items in
    let many : length xs ≡ length l.spots.items = length-map l.spots.items (λ (s : Bor Spot). located s.now) in
    let within : c.loop-number.number < length xs = omega (arith, many, l.spots.ok.0, c.len-number-end.ensures, c.loop-number-test.true) in
    let at : (e : Located) × (slice_get xs c.loop-number.number ≡ Some e) = got-at xs c.loop-number.number within in
    sym (start-passes c.args.index.now.spots xs l.continuations c.requires.spots c.requires.counted (λ s. is_nested (chain a s)) c.loop-number.number at.0 c.loop-number.auto.number at.1
    (ap is_nested (sym (ap all_located c.as_slice.ensures.value ∙ c.in_ok-put_chain.ensures.chain at.0 at.1)) ∙ sym c.in_ok-has_nested.ensures ∙ c.if-branch.true))

pub loop-number-preserved : goal.loop-number-preserved
loop-number-preserved c = λ k e low high at.
    let a = asked c.args.index.now in
    let xs = all_located c.args.links.now.spots.items in
    ⊎_elim
    (λ (same : k ≡ c.loop-number.number).
    ap is_nested (sym (ap all_located c.as_slice.ensures.value ∙ c.in_ok-put_chain.ensures.chain e (sym (ap (slice_get xs) same) ∙ at)))
    ∙ sym c.in_ok-has_nested.ensures ∙ c.if-branch.false)
    (λ (other : k ≡ c.loop-number.number → ⊥). c.loop-number.invariant k e low (omega (arith, high, other)) at)
    (cases_eq k c.loop-number.number)

pub returns : goal.returns
returns c =
    let l = c.args.links.now in
    let xs = all_located l.spots.items in
    let many : length xs ≡ length l.spots.items = length-map l.spots.items (λ (s : Bor Spot). located s.now) in
    sym (no-start-passes c.args.index.now.spots xs l.continuations c.loop-number.number c.requires.spots c.requires.counted
    (omega (arith, many, l.spots.ok.0, c.len-number-end.ensures, c.loop-number-test.false)) (λ s. is_nested (chain (asked c.args.index.now) s)) c.loop-number.invariant)
