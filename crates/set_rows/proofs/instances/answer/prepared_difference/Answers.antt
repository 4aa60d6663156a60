use Rattle.instance_in.proofs.WritableLaws.{writable}
use Rattle.set_rows.proofs.instances.answer.prepared_difference.Goals as goal

pub prepare-requires : goal.prepare-requires
prepare-requires c = writable c.args.content.now c.requires.proper.tested
