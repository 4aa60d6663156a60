-- Targets that lie in one list of bytes.
use Rattle.std.specs.Prelude.{ℕ, Bool, ◌&&◌, nat_le, List, [], ◌∷◌, ◌++◌, map, slice_range, if◌then◌else◌}
use Rattle.ix_base.specs.Outside.{Begun}
use Rattle.ix_base.specs.declared.memory.shelf.Slot.{Slot}

-- the places rise, up to n
abbrev pub is_within : ℕ → Slot → Bool
is_within n s = nat_le s.dir s.name && nat_le s.name s.bytes && nat_le s.bytes s.end && nat_le s.end n

-- the target of a slot
abbrev pub target_at : List ℕ → Slot → Begun
target_at held s = record {
  dir = slice_range held s.dir s.name;
  name = slice_range held s.name s.bytes;
  bytes = slice_range held s.bytes s.end;
  finished = s.finished;
}

-- the targets of these slots and, where there is any, of a last one
abbrev pub targets_at : List ℕ → List Slot → Bool → Slot → List Begun
targets_at held earlier any last = map (target_at held) earlier ++ (if any then target_at held last ∷ [] else [])
