use Rattle.ixds_run.proofs.DueLaws.{due_is}
use Rattle.ixds_run.proofs.prepare.due_from.Goals as goal

pub returns-clause-due : goal.returns-clause-due
returns-clause-due c =
    due_is c.ready.result c.args.command.now c.number.result c.in_ok-made.made c.args.forest c.number.ensures
    c.said_read_back.ensures c.requires.given c.said_in_any_order.ensures.command c.in_ok-made.ensures.makes c.ready.ensures.due c.ready.ensures.none
