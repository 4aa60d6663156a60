use Rattle.ixds_run.proofs.ReadyLaws.{followed_ready, prepared_ready}
use Rattle.ixds_run.proofs.SessionLaws.{no_session}
use Rattle.ixds_run.proofs.answer.made_ready.Goals as goal

pub returns-in-Session : goal.returns-in-Session
returns-in-Session g c =
    followed_ready c.args.command.now c.in-Session.base c.in-Session.field-1 c.in-Session.script _ _ _ _ _ c.follow.result c.in-Session.is c.as_str.ensures c.as_str-in-Session.ensures c.follow.ensures

pub returns-in_default : goal.returns-in_default
returns-in_default g c = prepared_ready c.args.command.now _ _ _ c.prepared.result (no_session c.args.command.now c.in_default.not-Session) c.prepared.ensures
