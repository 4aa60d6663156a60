use Rattle.std.proofs.Common.{◌≡◌, ◌∙◌, ap, sym, refl}
use Rattle.std.specs.Option.{option_and_then}
use Rattle.command_words.specs.Commands.{command_of}
use Rattle.ixds_run.specs.declared.status.Status.TheVariants.{NoMemory}
use Rattle.ixds_run.proofs.SessionLaws.{along_answered, untouched}
use Rattle.ixds_cli.specs.Words.{command_in}
use Rattle.ixds_cli.proofs.run_words.Goals as goal

pub returns-in-Ok-clause-answers : goal.returns-in-Ok-clause-answers
returns-in-Ok-clause-answers g c =
    let same : command_in c.args.handed ≡ command_of c.as_slice.result.now =
    ap (option_and_then command_of) c.in-Ok.ensures ∙ ap command_of (sym c.as_slice.ensures.value) in
    (c.run-status.result, c.ended.ensures, along_answered _ _ _ _ _ _ _ _ (sym same) c.run-status.ensures)

pub returns-in-Ok-clause-told : goal.returns-in-Ok-clause-told
returns-in-Ok-clause-told g c = (c.run-status.result, c.ended.ensures, c.complain.ensures.told)

pub returns-in-Ok-clause-quiet : goal.returns-in-Ok-clause-quiet
returns-in-Ok-clause-quiet g c = (c.run-status.result, c.ended.ensures, c.complain.ensures.quiet)

pub returns-in-Err-clause-answers : goal.returns-in-Err-clause-answers
returns-in-Err-clause-answers g c = (NoMemory, c.ended-in-Err.ensures, untouched (command_in c.args.handed) _ _ _ _ refl refl refl)

pub returns-in-Err-clause-told : goal.returns-in-Err-clause-told
returns-in-Err-clause-told g c = (NoMemory, c.ended-in-Err.ensures, c.complain-in-Err.ensures.told)

pub returns-in-Err-clause-quiet : goal.returns-in-Err-clause-quiet
returns-in-Err-clause-quiet g c = (NoMemory, c.ended-in-Err.ensures, c.complain-in-Err.ensures.quiet)
