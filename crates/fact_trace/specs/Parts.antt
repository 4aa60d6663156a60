-- The elements that are left out of an element, one element at a time.
use Rattle.std.specs.Prelude.{ℕ, List, [], ◌∷◌, ◌++◌, if◌then◌else◌}
use Rattle.ix_base.specs.Trees.{Tree}
use Rattle.fact_trace.specs.Spans.{is_left_out, left_out}

-- the offset of an element that is left out, and those of the ones in it
abbrev pub left_out_at : Tree → List ℕ
left_out_at t = (if is_left_out t.head.name then t.head.offset ∷ [] else []) ++ left_out t.children
