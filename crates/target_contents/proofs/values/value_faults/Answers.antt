use Rattle.std.proofs.Common.{◌∙◌, ap, subst}
use Rattle.std.proofs.lemmas.Result.{IfOk-weaker}
use Rattle.std.specs.List.{filter}
use Rattle.std.specs.Result.{IfOk}
use Rattle.ix_base.specs.Asks.{asks}
use Rattle.ix_base.specs.LocatedElements.{base_in}
use Rattle.facts.specs.ItemValue.{IsItem}
use Rattle.id_table.specs.Model.{is_checked}
use Rattle.target_contents.specs.Faults.{AreOfItems}
use Rattle.target_contents.specs.LinkedSets.{BasedElements}
use Rattle.target_contents.proofs.FaultlessLaws.{checked-all}
use Rattle.target_contents.proofs.ListLaws.{among-such}
use Rattle.target_contents.proofs.values.value_faults.Goals as goal

pub faults_among-requires : goal.faults_among-requires
faults_among-requires c =
    among-such is_checked c.checked.result.now c.args.set.now.elements
    (c.checked.ensures.elements ∙ ap (λ (b : BasedElements). filter is_checked b.elements) c.set.view_is)

pub returns : goal.returns
returns c =
    let set = c.args.set.now in
    let bases = base_in set.bases in
    let a = asks set.elements in
    let checked = c.checked.ensures.elements ∙ ap (λ (b : BasedElements). filter is_checked b.elements) c.set.view_is in
    IfOk-weaker c.faults_among.result _ _ (checked-all bases a set.elements)
    (subst (λ es. IfOk c.faults_among.result (AreOfItems (IsItem bases a) es)) checked c.faults_among.ensures)
