use Rattle.std.proofs.Common.{◌≡◌, ◌∙◌, List, IfOk, ap, subst}
use Rattle.ix_base.specs.Trees.{Tree}
use Rattle.targets.specs.Forest.{page_set, trees_of}
use Rattle.target_contents.specs.SetOutcomes.{ComesTo}
use Rattle.page_session.specs.Sessions.{trees_kept}
use Rattle.page_session.proofs.answer.made_of.Goals as goal

pub returns-clause-made : goal.returns-clause-made
returns-clause-made c =
    let same : trees_of c.as_slice.result.now ≡ trees_kept c.args.kept.now = ap trees_of c.as_slice.ensures.value ∙ c.in_ok-roots.ensures.trees in
    subst (λ (ts : List Tree). IfOk c.made.result (ComesTo (page_set c.args.base.now c.args.names.now ts))) same c.made.ensures.made
