use Rattle.std.proofs.Common.{◌≡◌, ◌∷◌, [], drop}
use Rattle.std.specs.List.{list_all}
use Rattle.instance_lines.specs.Tables.{values_of}
use Rattle.proper_texts.specs.TextTests.{passes}
use Rattle.proper_texts.proofs.texts.names_pass.Given as goal

abbrev pub invariant-loop-name : goal.invariant-loop-name
invariant-loop-name l = list_all (λ n. list_all (passes l.test) (n.ns ∷ n.local ∷ [])) (values_of (drop l.name-index l.names)) ≡ list_all (λ n. list_all (passes l.test) (n.ns ∷ n.local ∷ [])) (values_of l.names)
