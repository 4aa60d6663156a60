use Rattle.std.proofs.Common.{◌++◌, map}
use Rattle.std.specs.BTreeMap.{values}
use Rattle.std.specs.List.{All}
use Rattle.ix_base.specs.Once.{SameMembers}
use Rattle.page_plain.specs.SpaceNumbers.{IsThere, space_met, spaces_at, spaces_met}
use Rattle.page_plain.proofs.prefixes.numbers_of.Given as goal

abbrev pub invariant-loop-number : goal.invariant-loop-number
invariant-loop-number l = record {
  spaces : SameMembers (spaces_at (map (λ s. s.now) l.spaces) l.numbers ++ map space_met l.number-iterator) (spaces_met l.met);
  there : All (IsThere (map (λ s. s.now) l.spaces)) (values l.numbers);
}
