use Rattle.std.proofs.Common.{sym, ap, ◌∙◌, length}
use Rattle.page_constructs.specs.Meanings.{behind_front}
use Rattle.page_constructs.proofs.TagReading.{apart, part-some}
use Rattle.page_constructs.proofs.meaning.declaration.part_at.Goals as goal

pub returns : goal.returns
returns c =
    c.equalled.ensures
    ∙ part-some c.args.name.now c.args.text.now c.in_ok-behind_front.field-0.now (apart c.args.text.now (λ e. c.if-dark-text.false (ap length c.behind_white-dark.ensures ∙ e)))
    (ap (behind_front c.args.name.now) (sym c.behind_white-dark.ensures) ∙ sym c.in_ok-behind_front.ensures)
