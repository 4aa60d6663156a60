use Rattle.std.proofs.Common.{◌≡◌, drop}
use Rattle.std.specs.List.{list_all}
use Rattle.instance_out.specs.Proper.{is_name}
use Rattle.instance_lines.specs.Tables.{values_of}
use Rattle.proper_content.proofs.names.are_names.Given as goal

abbrev pub invariant-loop-name : goal.invariant-loop-name
invariant-loop-name l = list_all is_name (values_of (drop l.name-index l.names)) ≡ list_all is_name (values_of l.names)
