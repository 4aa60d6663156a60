use Rattle.std.proofs.Common.{◌≡◌, ◌+◌, map, drop}
use Rattle.ix_base.specs.Attributes.{valued, place_named}
use Rattle.ix_base.proofs.attrs.place_of.Given as goal

-- none of the attributes before here has the name
abbrev pub invariant-loop-at : goal.invariant-loop-at
invariant-loop-at l =
    l.at + place_named (map valued (drop l.at l.attrs)) l.ns l.local ≡ place_named (map valued l.attrs) l.ns l.local
