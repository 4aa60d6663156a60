use Rattle.std.proofs.Common.{◌∙◌, ◌==◌, ap, sym}
use Rattle.std.proofs.lemmas.List.{length-map}
use Rattle.std.specs.Borrow.{Bor}
use Rattle.ix_base.specs.declared.tree.Spot.{Spot}
use Rattle.ix_base.specs.LocatedElements.{located}
use Rattle.id_table.specs.Tables.{all_located}
use Rattle.target_contents.proofs.NoTargets.{no-not, only-default}
use Rattle.target_contents.proofs.contents.has_only_default.Goals as goal

pub returns-then-not-has_targets-clause-names : goal.returns-then-not-has_targets-clause-names
returns-then-not-has_targets-clause-names c = λ some.
    let facts = c.facts.result.now in
    only-default c.args.index.now.spots (all_located facts) (sym c.has_targets.ensures ∙ c.if-not-has_targets.true) (sym c.facts.ensures.elements)
    (ap (λ n. n == 0) (length-map facts (λ (s : Bor Spot). located s.now)) ∙ sym c.is_empty.ensures ∙ no-not c.is_empty.result some)
