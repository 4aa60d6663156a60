use Rattle.std.proofs.Common.{◌∙◌}
use Rattle.target_contents.proofs.GatherLaws.{gathers-all}
use Rattle.target_contents.proofs.parts.ids_named.Goals as goal

pub returns : goal.returns
returns c = record {
  contexts = c.each_once.ensures ∙ gathers-all _ _ c.in_ok-named.ensures.contexts;
  units = c.each_once-2.ensures ∙ gathers-all _ _ c.in_ok-named.ensures.units;
}
