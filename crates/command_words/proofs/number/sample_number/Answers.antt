use Rattle.std.proofs.Common.{◌∙◌, sym, ap}
use Rattle.command_words.specs.Numbers.{is_count}
use Rattle.command_words.proofs.NumberLaws.{found, too_large, too_long, too_small}
use Rattle.command_words.proofs.number.sample_number.Goals as goal

pub returns-in-Ok : goal.returns-in-Ok
returns-in-Ok c = found c.args.word.now c.in-Ok.number (ap is_count (sym c.as_bytes.ensures.value) ∙ sym c.if-not-is_count.ensures)
    c.in-Ok.ensures.value.0 c.if-number-ge1.true c.if-number-le-MOST_FACTS.true

pub returns-in_default : goal.returns-in_default
returns-in_default c = too_large c.args.word.now c.in-Ok.number (ap is_count (sym c.as_bytes.ensures.value) ∙ sym c.if-not-is_count.ensures)
    c.in-Ok.ensures.value.0 c.if-number-le-MOST_FACTS.false

pub returns-in_default-2 : goal.returns-in_default-2
returns-in_default-2 c = too_small c.args.word.now c.in-Ok.number (ap is_count (sym c.as_bytes.ensures.value) ∙ sym c.if-not-is_count.ensures)
    c.in-Ok.ensures.value.0 c.if-number-ge1.false

pub returns-in_default-3 : goal.returns-in_default-3
returns-in_default-3 c = too_long c.args.word.now (ap is_count (sym c.as_bytes.ensures.value) ∙ sym c.if-not-is_count.ensures)
    c.in_default.ensures.value.0
