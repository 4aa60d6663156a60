use Rattle.std.proofs.Common.{sym, ◌∙◌}
use Rattle.value_forms.proofs.WordLaws.{no-word, one-word}
use Rattle.value_forms.proofs.words.first_word.Goals as goal

pub returns-then-is_empty : goal.returns-then-is_empty
returns-then-is_empty c = no-word c.args.text.now c.trim_start-start.result.now c.trim_start-start.ensures (sym c.is_empty.ensures ∙ c.if-is_empty.true)

pub returns : goal.returns
returns c =
    one-word c.args.text.now c.trim_start-start.result.now c.cut_at_white.result.0.now c.cut_at_white.result.1.now c.trim_start-start.ensures
    (sym c.is_empty.ensures ∙ c.if-is_empty.false) c.cut_at_white.ensures.front c.cut_at_white.ensures.rest
