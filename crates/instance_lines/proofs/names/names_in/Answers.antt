use Rattle.std.proofs.Common.{◌∙◌, sym, refl, append-nil}
use Rattle.instance_lines.specs.Tables.{values_of}
use Rattle.instance_lines.proofs.names.names_in.Goals as goal

pub returns : goal.returns
returns c =
    sym (append-nil (values_of c.add_facts.new.names.items))
    ∙ rw (c.in_ok-add_facts.ensures, c.in_ok-add_units.ensures, c.in_ok-add_contexts.ensures, c.new-names.ensures.items, c.as_slice.ensures, c.as_slice-2.ensures, c.as_slice-3.ensures, append-nil) refl
