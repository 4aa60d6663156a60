use Rattle.std.proofs.Common.{arith}
use Rattle.std.proofs.lemmas.Grind.{common_steps}
use Rattle.tr4_dates.proofs.CodeLemmas.{read_refused, piece_taken}
use Rattle.tr4_dates.proofs.read.«+fields_in».Goals as goal

pub returns-in-None-2 : goal.returns-in-None-2
returns-in-None-2 t c =
    grind (arith, common_steps, read_refused c.args.language c.args.parts.now c.in-Some.part.now c.in-Some.rest.now c.args.text.now, piece_taken c.args.language c.in-Some.part.now c.args.text.now, c.in_ok-said-in-Some.ensures, c.in-None-2.is)
