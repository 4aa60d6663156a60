use Rattle.std.proofs.Common.{◌∙◌, ◌==◌, ap, List, ℕ, length, sym, arith}
use Rattle.ixds_run.proofs.DueLaws.{default_behind, default_here, default_none}
use Rattle.ixds_run.proofs.due.default_len.Goals as goal

pub loop-target-preserved : goal.loop-target-preserved
loop-target-preserved c =
    c.loop-target.invariant
    ∙ default_behind c.args.targets.now c.loop-target.target-index c.target-item.result (omega arith) c.target-item.is
    (ap (λ (t : List ℕ). length t == 0) (sym c.as_str.ensures) ∙ sym c.if-is_empty.ensures)

pub returns-then-is_empty : goal.returns-then-is_empty
returns-then-is_empty c =
    c.len.ensures
    ∙ sym (default_here c.args.targets.now c.loop-target.target-index c.target-item.result (omega arith) c.target-item.is
    (ap (λ (t : List ℕ). length t == 0) (sym c.as_str.ensures) ∙ sym c.if-is_empty.ensures))
    ∙ sym c.loop-target.invariant

pub returns : goal.returns
returns c = sym (c.loop-target.invariant ∙ default_none c.args.targets.now c.loop-target.target-index (omega arith))
