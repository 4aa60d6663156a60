-- The ways through the elements of a page, from construct to construct.
use Rattle.std.specs.Prelude.{◌≡◌, ℕ, ◌==◌, ◌≤◌, Bool, List, [], ◌∷◌, Contains, drop, Some, if◌then◌else◌}
use Rattle.ix_base.specs.declared.limits.TheConstants.{DEEPEST_ELEMENT}
use Rattle.std.specs.Option.{option_map_or}
use Rattle.ix_base.specs.Elements.{elements_of, placed_at}
use Rattle.ix_base.specs.Trees.{Tree}
use Rattle.page_tree.specs.Page.{page}
use Rattle.page_tree.specs.Reaches.{Reach, reach_at, reaches, told}
use Rattle.page_tree.specs.declared.construct.Construct.{Construct}
use Rattle.fact_trace.specs.Spans.{is_among, move}
use Rattle.fact_trace.specs.declared.moves.Move.{Move}
use Rattle.fact_trace.specs.declared.moves.Move.TheVariants.{Opens, Passes}
use Rattle.fact_trace.specs.declared.moves.Step.{Step}
use Rattle.fact_trace.specs.declared.span.Span.{Span}

-- the bytes are a page of some tree
pub record IsWhole (b : List ℕ) : Type 0 where
  pub root : Tree
  pub is : page b DEEPEST_ELEMENT root

-- what a start tag at an offset does, or an empty-element tag
abbrev pub tag_move : Bool → ℕ → Move
tag_move slashed at = if slashed then Passes else Opens at

-- what the construct does that starts at an offset
abbrev pub move_there : List ℕ → ℕ → Move
move_there b from = option_map_or move (reach_at (reaches b) from) Passes

-- a construct of a page
pub record IsConstruct (b : List ℕ) (c : Construct) : Type 0 where
  pub whole : IsWhole b
  pub reach : Reach
  pub found : reach_at (reaches b) c.start ≡ Some reach
  pub is : c ≡ told reach

abbrev pub stepped : Reach → Step
stepped r = record { does = move r; start = r.what.start; end = r.end }

-- the constructs from the one on that starts at an offset
abbrev pub from_on : List Reach → ℕ → List Reach
from_on [] at = []
from_on (r ∷ rs) at = if r.what.start == at then r ∷ rs else from_on rs at

-- the tree of an element of a page with these bytes
pub record IsOfPage (b : List ℕ) (t : Tree) : Type 0 where
  pub root : Tree
  pub above : List Tree
  pub is : page b DEEPEST_ELEMENT root
  pub there : Contains (elements_of root) (placed_at t above)

-- of these numbers the first so many needn't be asked for one that is no lower than this
abbrev pub IsFrontPassed : List ℕ → ℕ → ℕ → Type 0
IsFrontPassed offsets next at = (x : ℕ) → at ≤ x → is_among offsets x ≡ is_among (drop next offsets) x

-- a construct that says something, as a span of the page of this name, where nothing mutes it
abbrev pub heard_at_step : List ℕ → Step → ℕ → List Span
heard_at_step name s muted = if muted == 0 then record { page = name; start = s.start; end = s.end } ∷ [] else []
