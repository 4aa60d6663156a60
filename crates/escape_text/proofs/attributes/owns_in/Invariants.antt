use Rattle.std.proofs.Common.{◌≡◌, take, map, option_map}
use Rattle.ix_base.specs.Trees.{named, valued}
use Rattle.escape_text.specs.OwnedAttributes.{own, written_of}
use Rattle.escape_text.proofs.attributes.owns_in.Given as goal

-- those before here are there
abbrev pub invariant-loop-attr : goal.invariant-loop-attr
invariant-loop-attr l = map own l.owns.items ≡ written_of (option_map (λ b. b.now) l.base) (named l.element) (map valued (take l.attr-index l.attrs))
