use Rattle.std.proofs.Common.{◌≡◌, ◌∙◌, ◌+◌, ◌-◌, ◌/◌, ◌<◌, ap, arith, length, refl, sym, ℕ, Some}
use Rattle.std.proofs.lemmas.Option.{slice_get_read}
use Rattle.std.specs.List.{slice_get}
use Rattle.std.specs.Ordering.{is_lt}
use Rattle.id_table.specs.declared.slice.Slice.{Slice}
use Rattle.continuations.specs.Nesting.{key_cmp}
use Rattle.continuations.proofs.PlaceLaws.{before-more, behind-more}
use Rattle.continuations.proofs.by_place.count_before.Goals as goal

pub loop-low-preserved-then-is_before : goal.loop-low-preserved-then-is_before
loop-low-preserved-then-is_before c =
    let middle : ℕ = c.loop-low.low + (c.loop-low.high - c.loop-low.low) / 2 in
    let l : middle < c.loop-low.high = omega (arith, c.loop-low-test.true) in
    let within : middle < length c.args.chains.now = omega (arith, l, c.loop-low.invariant.within) in
    let at : slice_get c.args.chains.now middle ≡ Some c.index-chains-middle.result
    = slice_get_read c.args.chains.now (length c.args.chains.now) middle c.index-chains-middle.result refl within c.index-chains-middle.is in
    record {
      order = omega (arith, l);
      within = c.loop-low.invariant.within;
      before = before-more c.args.chains.now c.args.place middle c.index-chains-middle.result c.requires at
          (ap (λ (e : (ℕ × ℕ) × Slice). is_lt (key_cmp e.0 c.args.place)) c.index-chains-middle.is ∙ sym c.is_before.ensures ∙ c.if-is_before.true);
      behind = c.loop-low.invariant.behind;
    }

pub loop-low-preserved : goal.loop-low-preserved
loop-low-preserved c =
    let middle : ℕ = c.loop-low.low + (c.loop-low.high - c.loop-low.low) / 2 in
    let l : middle < c.loop-low.high = omega (arith, c.loop-low-test.true) in
    let within : middle < length c.args.chains.now = omega (arith, l, c.loop-low.invariant.within) in
    let at : slice_get c.args.chains.now middle ≡ Some c.index-chains-middle.result
    = slice_get_read c.args.chains.now (length c.args.chains.now) middle c.index-chains-middle.result refl within c.index-chains-middle.is in
    record {
      order = omega arith;
      within = omega (arith, within);
      before = c.loop-low.invariant.before;
      behind = behind-more c.args.chains.now c.args.place middle c.index-chains-middle.result c.requires at
          (ap (λ (e : (ℕ × ℕ) × Slice). is_lt (key_cmp e.0 c.args.place)) c.index-chains-middle.is ∙ sym c.is_before.ensures ∙ c.if-is_before.false);
    }

pub returns-clause-behind : goal.returns-clause-behind
returns-clause-behind c = λ i x l s. c.loop-low.invariant.behind i x (omega (arith, l, c.loop-low-test.false)) s
