use Rattle.std.proofs.Common.{◌≡◌, drop}
use Rattle.instance_lines.specs.Lists.{is_within}
use Rattle.instance_lines.specs.Tables.{values_of}
use Rattle.proper_content.proofs.among.Among.have.Given as goal

abbrev pub invariant-loop-text : goal.invariant-loop-text
invariant-loop-text l = is_within (values_of (drop l.text-index l.texts)) l.self ≡ is_within (values_of l.texts) l.self
