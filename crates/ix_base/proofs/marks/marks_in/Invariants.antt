use Rattle.std.proofs.Common.{◌≡◌, map, drop}
use Rattle.ix_base.specs.Attributes.{valued}
use Rattle.ix_base.specs.Marks.{marks_of, marks_with}
use Rattle.ix_base.proofs.marks.marks_in.Given as goal

-- with the marks of the attributes that are left they are those of all
abbrev pub invariant-loop-attr : goal.invariant-loop-attr
invariant-loop-attr l = marks_with l.marks (map valued (drop l.attr-index l.attrs)) ≡ marks_of (map valued l.attrs)
