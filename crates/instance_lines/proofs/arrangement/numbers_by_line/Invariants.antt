use Rattle.std.proofs.Common.{◌≡◌, ℕ, map}
use Rattle.std.specs.List.{range_with_len}
use Rattle.instance_lines.specs.Elements.{fact_line}
use Rattle.instance_lines.specs.Numbering.{key_at}
use Rattle.instance_lines.specs.declared.sort.Keyed.{Keyed}
use Rattle.instance_lines.proofs.arrangement.numbers_by_line.Given as goal

-- the numbers so far, each with the line of its fact
abbrev pub invariant-loop-number : goal.invariant-loop-number
invariant-loop-number l =
    l.keyed.items ≡ map {B = Keyed ℕ} (λ k. record { key = key_at (fact_line l.prefixes) l.facts k; item = k }) (range_with_len 0 l.number)
