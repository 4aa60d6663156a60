use Rattle.std.proofs.Common.{rules, ◌≡◌, true}
use Rattle.std.specs.Str.{is_utf8}
use Rattle.std.proofs.lemmas.Str.{is_utf8-from_IsUtf8}
use Rattle.ix_base.specs.NcName.{are_allowed}
use Rattle.ix_base.proofs.allowed.are_allowed.Goals as goal

pub returns : goal.returns
unfolding are_allowed
returns c = let utf8 : is_utf8 c.args.text.now ≡ true = is_utf8-from_IsUtf8 _ c.utf8.text in rw utf8 (search rules)
