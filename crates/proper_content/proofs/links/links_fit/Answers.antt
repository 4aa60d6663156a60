use Rattle.std.proofs.Common.{◌∙◌, ap}
use Rattle.std.specs.List.{list_all}
use Rattle.ix_base.specs.Facts.{facts_of}
use Rattle.ix_base.specs.PlainContents.{said_of}
use Rattle.ix_base.specs.SortedLists.{sorted, text_cmp}
use Rattle.instance_lines.specs.Holdings.{fact_ids}
use Rattle.instance_out.specs.Proper.{is_whole_link}
use Rattle.instance_lines.specs.Tables.{values_of}
use Rattle.proper_content.proofs.ToldLaws.{links_told}
use Rattle.proper_content.proofs.links.links_fit.Goals as goal

pub returns : goal.returns
returns c =
    let content = c.args.content.now in
    c.in_ok-answer.ensures
    ∙ ap (λ fs. list_all (is_whole_link fs) c.as_slice-2.result.now)
    (c.of-facts.ensures ∙ ap (λ is. sorted text_cmp (values_of is)) (c.in_ok-ids.ensures.items ∙ c.as_slice.ensures.value)
    ∙ ap (sorted text_cmp) c.requires.ids)
    ∙ ap (list_all (is_whole_link (sorted text_cmp (fact_ids (facts_of content.facts))))) c.as_slice-2.ensures
    ∙ links_told (said_of content)
