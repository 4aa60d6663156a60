use Rattle.std.proofs.Common.{◌∙◌, ap, sym}
use Rattle.std.specs.Prelude.{option_copied}
use Rattle.std.proofs.lemmas.Result.{IfOk-weaker}
use Rattle.scopes.proofs.BackLemmas.{joined_backs}
use Rattle.scopes.proofs.parsed_base.ParsedBase.url_with.Goals as goal

pub returns-in-Some-clause-back : goal.returns-in-Some-clause-back
returns-in-Some-clause-back c =
    joined_backs c.args.self.now c.args.text.now c.in-Some.url.now c.accepted.result
    (sym c.url.ensures.url ∙ ap option_copied c.in-Some.is) c.in-Some.ensures.valid
    (IfOk-weaker c.accepted.result _ _ (λ given h. h _ c.join.ensures) c.accepted.ensures.url) c.accepted.ensures.valid
