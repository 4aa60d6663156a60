use lib.Utf8.{encode}
use Rattle.value_forms.proofs.DecimalLaws.{sign_gone}
use Rattle.value_forms.proofs.decimals.without_sign.Goals as goal

pub returns-in-None-strip_prefix : goal.returns-in-None-strip_prefix
unfolding encode
returns-in-None-strip_prefix c = sign_gone c.args.text.now c.in-None.ensures.cases c.in-None-strip_prefix.ensures.cases
