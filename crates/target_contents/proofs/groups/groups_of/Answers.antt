use Rattle.target_contents.proofs.groups.groups_of.Goals as goal

pub returns : goal.returns
returns c = record {
  facts = c.in_ok-facts.ensures;
  schemas = c.in_ok-schemas.ensures.schemas;
  linkbases = c.in_ok-schemas.ensures.linkbases;
  none = c.new.ensures.items;
}
