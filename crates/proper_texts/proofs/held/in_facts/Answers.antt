use Rattle.std.proofs.Common.{ap}
use Rattle.instance_lines.specs.Tables.{values_of}
use Rattle.proper_texts.proofs.GainLaws.{all_gained}
use Rattle.proper_texts.proofs.held.in_facts.Goals as goal

pub returns : goal.returns
returns c = record {
  items = all_gained _ _ _ c.in_ok-add_facts.ensures.items (ap values_of c.new.ensures.items);
  ids = all_gained _ _ _ c.in_ok-add_facts.ensures.ids (ap values_of c.new-2.ensures.items);
  names = all_gained _ _ _ c.in_ok-add_facts.ensures.names (ap values_of c.new-3.ensures.items);
}
