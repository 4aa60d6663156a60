use Rattle.std.proofs.Common.{◌≡◌, ◌++◌, List, ℕ, drop}
use Rattle.std.specs.List.{concat}
use Rattle.instance_lines.proofs.note.push_texts.Given as goal

abbrev pub invariant-loop-text : goal.invariant-loop-text
invariant-loop-text l = (more : List ℕ) → l.out ++ (concat (drop l.text-index l.text-items) ++ more) ≡ l.initial.out ++ (concat l.text-items ++ more)
