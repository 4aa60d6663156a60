use Rattle.std.proofs.Common.{None}
use Rattle.text_map.proofs.Keyed.{keyed_changed}
use Rattle.text_map.proofs.table.take.Goals as goal

pub returns-clause-texts : goal.returns-clause-texts
returns-clause-texts g c = keyed_changed c.args.table.now c.swap_remove.new.self c.args.key.text.now None c.swap_remove.ensures.updates
