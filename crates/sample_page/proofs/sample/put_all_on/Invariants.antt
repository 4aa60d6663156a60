use Rattle.std.proofs.Common.{◌≡◌, ◌++◌}
use Rattle.sample_page.specs.Sample.{all_put_on}
use Rattle.sample_page.proofs.sample.put_all_on.Given as goal

abbrev pub invariant-loop-i : goal.invariant-loop-i
invariant-loop-i l = l.text.items ≡ l.fn.text.items ++ all_put_on l.page l.i
