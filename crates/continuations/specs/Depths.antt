-- How many walks stand between one and a walk that met no other, and how far the far number of a walk goes.
use Rattle.std.specs.Prelude.{ℕ, ◌≡◌, ◌<◌, ◌+◌, ◌==◌, nat_lt, List, length, Option, Some, None, slice_index_or, if◌then◌else◌}
use Rattle.std.specs.Int.{abs_diff}
use Rattle.continuations.specs.declared.visits.Visit.{Visit}
use Rattle.continuations.specs.Visits.{merge_at}

-- one more than there are for the walk that it met, where that is an earlier one
abbrev pub depth_by : Option Visit → List ℕ → ℕ → ℕ
depth_by None depths walk = 0
depth_by (Some met) depths walk = if nat_lt met.walk walk then slice_index_or depths met.walk 0 + 1 else 0

-- the far number of the far number of a walk, where both go over equally many walks, or else the walk
abbrev pub leap : List ℕ → ℕ → ℕ → ℕ → ℕ
leap depths walk far farther =
    if abs_diff (slice_index_or depths walk 0) (slice_index_or depths far 0) == abs_diff (slice_index_or depths far 0) (slice_index_or depths farther 0)
    then farther else walk

-- a leap from the walk that it met, where that is an earlier one
abbrev pub far_by : Option Visit → List ℕ → List ℕ → ℕ → ℕ
far_by None fars depths walk = walk
far_by (Some met) fars depths walk =
    if nat_lt met.walk walk
    then leap depths met.walk (slice_index_or fars met.walk 0) (slice_index_or fars (slice_index_or fars met.walk 0) 0)
    else walk

-- the depths of the walks from the first so many numbers, and their far numbers
pub record AreLeaps (visits : List (Option Visit)) (meets : List (Option ℕ)) (depths fars : List ℕ) : Type 0 where
  pub alike : length depths ≡ length fars
  pub deep : (h : ℕ) → h < length fars → slice_index_or depths h 0 ≡ depth_by (merge_at visits meets h) depths h
  pub far : (h : ℕ) → h < length fars → slice_index_or fars h 0 ≡ far_by (merge_at visits meets h) fars depths h
