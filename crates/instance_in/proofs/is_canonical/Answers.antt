use Rattle.std.proofs.Common.{◌∙◌, sym}
use Rattle.instance_in.proofs.WritableLaws.{writable}
use Rattle.instance_in.proofs.is_canonical.Goals as goal

pub prepare-requires : goal.prepare-requires
prepare-requires c = writable c.args.content.now (sym c.in_ok-is_proper.ensures ∙ c.if-not-branch.false)
