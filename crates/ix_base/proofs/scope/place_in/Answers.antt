use Rattle.std.proofs.Common.{◌+◌, ◌-◌, ◌/◌, arith, sym, ◌∙◌}
use Rattle.ix_base.proofs.ScopeLemmas.{half-behind, half-within, place-scope}
use Rattle.ix_base.proofs.scope.place_in.Goals as goal

pub loop-low-init : goal.loop-low-init
loop-low-init c = (omega arith, place-scope c.args.bindings.now c.args.prefix.now, omega arith)

pub loop-low-preserved-then-lt : goal.loop-low-preserved-then-lt
loop-low-preserved-then-lt c =
    let middle = c.loop-low.low + (c.loop-low.high - c.loop-low.low) / 2 in
    let behind = half-behind c.args.bindings.now c.args.prefix.now middle _ (omega arith) c.requires (sym c.lt.ensures ∙ c.if-lt.true) in
    (omega arith, omega arith, omega arith)

pub loop-low-preserved : goal.loop-low-preserved
loop-low-preserved c =
    let middle = c.loop-low.low + (c.loop-low.high - c.loop-low.low) / 2 in
    let within = half-within c.args.bindings.now c.args.prefix.now middle _ (omega arith) (sym c.lt.ensures ∙ c.if-lt.false) in
    (omega arith, omega arith, omega arith)
