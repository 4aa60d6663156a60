use Rattle.std.proofs.Common.{◌∙◌, None, Some, sym, append-nil}
use Rattle.ix_base.specs.Asks.{asks}
use Rattle.ix_base.specs.LocatedElements.{base_in, located}
use Rattle.facts.specs.ItemValue.{IsItem}
use Rattle.target_contents.proofs.ValueLaws.{value-added}
use Rattle.indexmap.proofs.MapLemmas.{OnOk-map}
use Rattle.target_contents.proofs.values.add_value.Goals as goal

pub returns-in-Some : goal.returns-in-Some
returns-in-Some c =
    let e = located c.args.spot.now in
    let said = c.in_ok-rule.ensures in
    OnOk-map c.add_at.result _ _
    (value-added (IsItem (base_in c.args.set.now.bases) (asks c.args.set.now.elements) e) e (Some c.in-Some.rule) c.args.found.now c.add_at.new.found
    (said.0, said.1, said.2 ∙ c.in-Some.is)) c.add_at.ensures

pub returns-in-None : goal.returns-in-None
returns-in-None c =
    let e = located c.args.spot.now in
    let said = c.in_ok-rule.ensures in
    value-added (IsItem (base_in c.args.set.now.bases) (asks c.args.set.now.elements) e) e None c.args.found.now c.args.found.now
    (said.0, said.1, said.2 ∙ c.in-None.is) (sym (append-nil c.args.found.now))
