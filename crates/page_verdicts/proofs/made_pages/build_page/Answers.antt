use Rattle.std.proofs.Common.{ap, refl, rules, ◌∙◌, subst, List, ℕ, Some, [], ◌+◌}
use Rattle.page_verdicts.specs.PageReads.{ReadsOn}
use Rattle.page_verdicts.proofs.ForestLaws.{built_on}
use Rattle.page_verdicts.proofs.made_pages.build_page.Goals as goal

pub take-requires : goal.take-requires
take-requires c = (c.new-open.result, ([], c.new-open.ensures.fresh, search rules))

pub end_page-requires-clause-depth : goal.end_page-requires-clause-depth
end_page-requires-clause-depth c = (c.in_ok-take.ensures c.new-open.result [] c.new-open.ensures.fresh).limit_is ∙ c.new-open.ensures.limit

pub end_page-requires-clause-page : goal.end_page-requires-clause-page
end_page-requires-clause-page c = (c.in_ok-take.ensures c.new-open.result [] c.new-open.ensures.fresh).page_is ∙ c.new-open.ensures.page

pub end_page-requires-clause-keeps : goal.end_page-requires-clause-keeps
end_page-requires-clause-keeps c = (c.in_ok-take.ensures c.new-open.result [] c.new-open.ensures.fresh).keeps_is ∙ c.new-open.ensures.keeps

pub returns-clause-reads : goal.returns-clause-reads
returns-clause-reads c =
    subst (λ (b : List ℕ). ReadsOn (Some b) (Some []) c.args.number c.args.forest.now c.end_page.new.forest) c.as_slice-bytes.ensures
    (built_on c.as_slice-bytes.result.now c.args.number c.take.new.self _ c.args.forest.now c.end_page.new.forest
    (c.in_ok-take.ensures c.new-open.result [] c.new-open.ensures.fresh).holds refl (ap (λ k. c.args.forest.now.sums.tags + k) c.count_tags.ensures.value)
    c.in_ok-end_page.ensures.sums c.in_ok-end_page.ensures.gained)
