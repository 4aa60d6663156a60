use Rattle.footnotes.proofs.order.written_in.Goals as goal

pub text_at-requires-clause-text : goal.text_at-requires-clause-text
text_at-requires-clause-text c = c.numbers_are_text.ensures c.args.digits.now _ c.args.negative _ c.scaled-count.ensures.number
