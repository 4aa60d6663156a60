use Rattle.std.proofs.Common.{◌∙◌, [], ap, length, sym}
use Rattle.std.proofs.lemmas.List.{length-map}
use Rattle.std.specs.Borrow.{Bor}
use Rattle.std.specs.Prelude.{nat_lt}
use Rattle.ix_base.specs.declared.tree.Spot.{Spot}
use Rattle.ix_base.specs.LocatedElements.{located}
use Rattle.id_table.specs.Model.{asked}
use Rattle.id_table.specs.Tables.{spots_at}
use Rattle.target_contents.proofs.NoTargets.{none-schemaless}
use Rattle.target_contents.proofs.links.has_default_schema.Goals as goal

pub returns-then-not-has_targets-clause-unbroken : goal.returns-then-not-has_targets-clause-unbroken
returns-then-not-has_targets-clause-unbroken c = λ some.
    let index = c.args.index.now in
    let count = c.count_in.ensures ∙ sym (length-map (spots_at c.args.schemas.now []) (λ (s : Bor Spot). located s.now)) ∙ ap length (c.requires []) in
    none-schemaless (asked index) index.spots (sym c.has_targets.ensures ∙ c.if-not-has_targets.true) (ap (nat_lt 0) (sym count) ∙ some)
