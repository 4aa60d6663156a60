use Rattle.ixds_files.proofs.WrittenLaws.{HasPut}
use Rattle.ixds_files.proofs.writing.put_all.Given as goal

abbrev pub invariant-tries : goal.invariant-tries
invariant-tries g l = HasPut (g.W.Write.contents l.fn.writer) (g.W.Write.contents l.writer) l.piece l.rest
