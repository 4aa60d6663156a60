use Rattle.std.proofs.Common.{refl, codes}
use Rattle.instance_lines.proofs.fact.push_accuracy.Goals as goal

pub returns-in_ok-push_further-in-Decimals : goal.returns-in_ok-push_further-in-Decimals
returns-in_ok-push_further-in-Decimals c more =
    rw (c.in-Some.is, c.in-Decimals.is, ← c.as_str.ensures) (c.in_ok-push_further-in-Decimals.ensures (codes "decimals") refl more)

pub returns-in_ok-push_further-in-Precision : goal.returns-in_ok-push_further-in-Precision
returns-in_ok-push_further-in-Precision c more =
    rw (c.in-Some.is, c.in-Precision.is, ← c.as_str-in-Precision.ensures)
    (c.in_ok-push_further-in-Precision.ensures (codes "precision") refl more)
