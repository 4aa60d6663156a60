use Rattle.std.proofs.Common.{◌≡◌, drop}
use Rattle.std.specs.List.{list_all}
use Rattle.ix_base.specs.NcName.{is_ncname}
use Rattle.instance_lines.specs.Tables.{values_of}
use Rattle.proper_content.proofs.ids.are_ncnames.Given as goal

abbrev pub invariant-loop-id : goal.invariant-loop-id
invariant-loop-id l = list_all is_ncname (values_of (drop l.id-index l.ids)) ≡ list_all is_ncname (values_of l.ids)
