use Rattle.std.proofs.Common.{◌≡◌, drop}
use Rattle.ix_base.specs.Outside.{first_named}
use Rattle.ix_base.specs.Slots.{targets_at}
use Rattle.ix_base.proofs.memory.shelf.Shelf.find.Given as goal

abbrev pub invariant-loop-slot : goal.invariant-loop-slot
invariant-loop-slot l =
    first_named l.name (targets_at l.self.held.items l.self.earlier.items l.self.any l.self.last)
    ≡ first_named l.name (targets_at l.self.held.items (drop l.slot-index l.self.earlier.items) l.self.any l.self.last)
