use Rattle.std.proofs.Common.{◌∙◌, ap, sym}
use Rattle.std.specs.Option.{option_copied}
use Rattle.page_links.proofs.met_ids.known.Goals as goal

pub returns-in-Some-clause-page : goal.returns-in-Some-clause-page
returns-in-Some-clause-page c h = h c.args.id.now c.in-Some.named.now (sym c.get.ensures ∙ ap option_copied c.in-Some.is)
