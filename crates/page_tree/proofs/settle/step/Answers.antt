use Rattle.std.proofs.Common.{◌≡◌, Some, refl, sym, ap, ◌∙◌, subst, take}
use Rattle.page_constructs.specs.Constructs.{whole_size, kind_of}
use Rattle.page_constructs.specs.Ends.{HasEnds}
use Rattle.page_tree.specs.MachineSteps.{Breaks}
use Rattle.page_tree.specs.Break.{fault}
use Rattle.page_tree.specs.Buildings.{state_of}
use Rattle.page_constructs.specs.Searches.{IsSought}
use Rattle.page_tree.proofs.CutPoints.{whole-boundary}
use Rattle.page_tree.proofs.EndLaws.{whole-ends}
use Rattle.page_tree.proofs.PieceLaws.{whole-takes}
use Rattle.page_tree.proofs.SettleLaws.{step-breaks, step-takes}
use Rattle.page_tree.proofs.settle.step.Goals as goal

pub returns-in-Beyond-clause-waits : goal.returns-in-Beyond-clause-waits
returns-in-Beyond-clause-waits c = λ s q.
    let is : c.in-Beyond.next ≡ s = cc in (
      ap (whole_size c.args.ended c.args.first) (sym c.as_bytes.ensures.value) ∙ sym c.in-Beyond.ensures.value,
      refl,
      subst (IsSought c.args.first c.args.text.now) is (subst (λ x. IsSought c.args.first x c.in-Beyond.next) c.as_bytes.ensures.value (c.in-Beyond.ensures.goes c.in-Beyond.next refl)),
    )

pub split_at-requires : goal.split_at-requires
split_at-requires c =
    let e : whole_size c.args.ended c.args.first c.args.text.now ≡ Some c.in-At.size = ap (whole_size c.args.ended c.args.first) (sym c.as_bytes.ensures.value) ∙ sym c.in-At.ensures.value in
    whole-boundary c.args.ended c.args.first c.args.text.now c.in-At.size c.utf8.text e

pub take-requires : goal.take-requires
take-requires c =
    let e : whole_size c.args.ended c.args.first c.args.text.now ≡ Some c.in-At.size = ap (whole_size c.args.ended c.args.first) (sym c.as_bytes.ensures.value) ∙ sym c.in-At.ensures.value in
    subst (λ k. HasEnds k c.split_at.result.0.now) (ap (kind_of c.args.first) (sym c.as_bytes-2.ensures.value) ∙ sym c.kind_of-kind.ensures)
    (subst (HasEnds (kind_of c.args.first c.args.text.now)) (sym c.split_at.ensures.front) (whole-ends c.args.ended c.args.first c.args.text.now c.in-At.size e))

pub returns-in-Err-Breaks-clause-breaks : goal.returns-in-Err-Breaks-clause-breaks
returns-in-Err-Breaks-clause-breaks c = λ b q us says at.
    let e : whole_size c.args.ended c.args.first c.args.text.now ≡ Some c.in-At.size = ap (whole_size c.args.ended c.args.first) (sym c.as_bytes.ensures.value) ∙ sym c.in-At.ensures.value in
    let is : record { offset = c.args.offset; rule = c.in-Err-Breaks.rule } ≡ b = cc in
    let broken = rw c.in-Err-Breaks.field-0-is at c.in-Err-Breaks.ensures in
    subst (λ x. Breaks c.args.ended c.args.setting.now.depth (state_of c.args.building.now) c.args.first us (fault x.offset x.rule)) is
    (step-breaks c.args.ended c.args.setting.now.depth (state_of c.args.building.now) c.args.first c.args.text.now us c.args.offset c.in-At.size
    c.kind_of-kind.result c.split_at.result.0.now says at e (c.kind_of-kind.ensures ∙ ap (kind_of c.args.first) c.as_bytes-2.ensures.value) c.split_at.ensures.front c.in-Err-Breaks.rule
    (sym broken.0))

pub returns-in-Ok-clause-takes : goal.returns-in-Ok-clause-takes
returns-in-Ok-clause-takes c = λ k q.
    let same : c.in-At.size ≡ k = cc in
    let e : whole_size c.args.ended c.args.first c.args.text.now ≡ Some k = ap (whole_size c.args.ended c.args.first) (sym c.as_bytes.ensures.value) ∙ sym c.in-At.ensures.value ∙ ap Some same in
    let t = whole-takes c.args.ended c.args.first c.args.text.now k e in
    let built = c.in-Ok.ensures in (
      t.0,
      whole-boundary c.args.ended c.args.first c.args.text.now k c.utf8.text e,
      e,
      λ us says at. step-takes c.args.ended c.args.setting.now.depth (state_of c.args.building.now) c.args.first c.args.text.now us c.args.offset k
          c.kind_of-kind.result c.split_at.result.0.now says at e (c.kind_of-kind.ensures ∙ ap (kind_of c.args.first) c.as_bytes-2.ensures.value) (c.split_at.ensures.front ∙ ap (λ n. take n c.args.text.now) same) (state_of c.take.new.building)
          (sym built.0) built.1.state,
    )
