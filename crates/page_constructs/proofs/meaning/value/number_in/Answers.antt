use Rattle.std.proofs.Common.{ap, ◌∙◌, arith, drop, option_map, ◌+◌}
use Rattle.page_constructs.specs.Spans.{up_to_beyond}
use Rattle.page_constructs.specs.Values.{number_behind}
use Rattle.page_constructs.proofs.ValueLaws.{number-next}
use Rattle.page_constructs.proofs.meaning.value.number_in.Goals as goal

pub loop-byte-preserved : goal.loop-byte-preserved
loop-byte-preserved c = (
  omega arith,
  ap (λ n. option_map up_to_beyond (number_behind c.args.base n (drop (c.loop-byte.byte-index + 1) c.args.digits.now))) c.min-number.ensures
      ∙ number-next c.args.base c.loop-byte.number c.in_ok-digit.digit c.args.digits.now c.loop-byte.byte-index c.requires.some c.loop-byte-test.true c.in_ok-digit.ensures.value
      ∙ c.loop-byte.invariant.1,
)
