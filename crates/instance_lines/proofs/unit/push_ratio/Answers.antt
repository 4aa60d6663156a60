use Rattle.std.proofs.Common.{refl, length, ◌≤◌}
use Rattle.instance_lines.proofs.MarkupLaws.{ratio-divide}
use Rattle.instance_lines.proofs.unit.push_ratio.Goals as goal

pub returns-in_ok-push_close-in-len1-up : goal.returns-in_ok-push_close-in-len1-up
returns-in_ok-push_close-in-len1-up c more =
    let some : 1 ≤ length c.args.unit.now.under = rw (← c.as_slice-under.ensures) c.in-len1-up.len_at_least in
    rw (
      ratio-divide c.args.prefixes.now c.args.unit.now.over c.args.unit.now.under more some,
      c.in_ok-push_close-in-len1-up.ensures,
      c.in_ok-push_measures_in-in-len1-up-2.ensures,
      c.in_ok-push_measures_in-in-len1-up.ensures,
      c.in_ok-push_start-in-len1-up.ensures,
      c.as_slice-over.ensures,
      c.as_slice-under.ensures,
    ) refl
