use Rattle.std.proofs.Common.{◌≡◌, ℕ, take}
use Rattle.std.specs.List.{list_any}
use Rattle.tuples.specs.MemberTables.{members_at}
use Rattle.tuples.specs.OwnedFacts.{is_owned_at}
use Rattle.id_table.specs.Slices.{slice_at}
use Rattle.tuples.proofs.SliceLaws.{kept_if}
use Rattle.tuples.proofs.slices.slices_of.Given as goal

-- the members are there of the tuples that own one of the facts before here
abbrev pub invariant-loop-fact : goal.invariant-loop-fact
invariant-loop-fact l = (page offset : ℕ) → slice_at l.slices page offset
    ≡ kept_if (list_any (is_owned_at page offset) (take l.fact-index l.facts)) (members_at l.index.spots page offset)
