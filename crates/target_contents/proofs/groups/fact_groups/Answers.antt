use Rattle.std.proofs.Common.{◌∙◌, sym, true≢false}
use Rattle.std.specs.List.{filter}
use Rattle.std.proofs.lemmas.Result.{IfOk-weaker}
use Rattle.ix_base.specs.LocatedElements.{is_fact}
use Rattle.target_contents.proofs.GroupLaws.{facts-at}
use Rattle.target_contents.proofs.ListLaws.{facts-of}
use Rattle.target_contents.proofs.groups.fact_groups.Goals as goal

pub returns-then-not-has_targets : goal.returns-then-not-has_targets
returns-then-not-has_targets c = λ any. absurd (true≢false (sym any ∙ sym c.has_targets.ensures ∙ c.if-not-has_targets.true))

pub returns : goal.returns
returns c =
    let es = c.args.index.now.spots in
    IfOk-weaker c.grouped.result _ _ (λ m h any q. facts-at m c.facts.result.now (filter is_fact es) c.facts.ensures.elements h q ∙ facts-of q es) c.grouped.ensures
