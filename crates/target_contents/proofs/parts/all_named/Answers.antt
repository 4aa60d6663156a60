use Rattle.std.proofs.Common.{◌∙◌, ap}
use Rattle.ix_base.specs.Once.{in_order}
use Rattle.ix_base.specs.SortedLists.{text_cmp}
use Rattle.target_contents.specs.Visits.{values_of}
use Rattle.target_contents.proofs.GatherLaws.{gathers-all}
use Rattle.target_contents.proofs.parts.all_named.Goals as goal

pub returns : goal.returns
returns c = record {
  contexts = c.in_ok-contexts.ensures ∙ ap (λ xs. in_order text_cmp (values_of xs)) c.as_slice.ensures.value
      ∙ gathers-all _ _ c.named-gathered.ensures.contexts;
  units = c.in_ok-units.ensures ∙ ap (λ xs. in_order text_cmp (values_of xs)) c.as_slice-2.ensures.value
      ∙ gathers-all _ _ c.named-gathered.ensures.units;
}
