use Rattle.std.proofs.Common.{◌≡◌, drop}
use Rattle.std.specs.List.{list_all}
use Rattle.instance_out.specs.Proper.{is_full}
use Rattle.instance_lines.specs.Tables.{values_of}
use Rattle.proper_texts.proofs.tokens.are_full_arcs.Given as goal

abbrev pub invariant-loop-arc : goal.invariant-loop-arc
invariant-loop-arc l = list_all (λ a. is_full a.arcrole) (values_of (drop l.arc-index l.arcs)) ≡ list_all (λ a. is_full a.arcrole) (values_of l.arcs)
