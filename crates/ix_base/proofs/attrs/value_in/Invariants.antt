use Rattle.std.proofs.Common.{◌≡◌, map, drop}
use Rattle.ix_base.specs.Attributes.{valued, value_of}
use Rattle.ix_base.proofs.attrs.value_in.Given as goal

-- none of the attributes before here has the name
abbrev pub invariant-loop-attr : goal.invariant-loop-attr
invariant-loop-attr l = value_of (map valued (drop l.attr-index l.attrs)) l.ns l.local ≡ value_of (map valued l.attrs) l.ns l.local
