use Rattle.scale_sign.proofs.Texts.{number-text}
use Rattle.scale_sign.proofs.numbers_are_text.Goals as goal

pub returns : goal.returns
returns c = number-text
