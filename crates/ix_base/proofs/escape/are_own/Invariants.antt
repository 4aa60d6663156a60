use Rattle.std.proofs.Common.{◌≡◌, take}
use Rattle.std.specs.List.{list_all}
use Rattle.ix_base.specs.Escapes.{is_own}
use Rattle.ix_base.specs.Manners.{ref_in}
use Rattle.ix_base.proofs.escape.are_own.Given as goal

abbrev pub invariant-loop-byte : goal.invariant-loop-byte
invariant-loop-byte l = l.all ≡ list_all (is_own (ref_in l.manner)) (take l.byte-index l.bytes)
