use Rattle.std.proofs.Common.{◌∙◌}
use Rattle.std.proofs.lemmas.List.{map-id}
use Rattle.clap.specs.Simple.{app_of}
use Rattle.command_words.proofs.Taken.{taken, refused}
use Rattle.command_words.proofs.simple.matched.Goals as goal

pub returns-in-Ok : goal.returns-in-Ok
returns-in-Ok c =
    taken (app_of c.args.command) _ c.args.words.now c.in-Ok.matches (map-id c.args.words.now) c.requires
    (c.in-Ok.ensures.kinds c.requires) c.in-Ok.ensures.matches

pub returns : goal.returns
returns c =
    refused (app_of c.args.command) _ c.args.words.now c.in-Err.error (map-id c.args.words.now)
    (λ e. c.in_default.not-OutOfMemory (c.kind.ensures ∙ e))
    (c.in-Err.ensures.kinds c.requires)
