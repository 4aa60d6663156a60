use Rattle.std.proofs.Common.{◌∙◌}
use Rattle.page_constructs.specs.Values.{number_in}
use Rattle.page_constructs.proofs.ValueLaws.{allowed-up}
use Rattle.page_constructs.proofs.meaning.value.numbered.Goals as goal

pub returns : goal.returns
returns c = c.allowed.ensures ∙ allowed-up (number_in c.args.base c.args.digits.now) c.in_ok-number_in.field-0 c.in_ok-number_in.ensures
