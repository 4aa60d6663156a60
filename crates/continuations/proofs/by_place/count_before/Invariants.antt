use Rattle.std.proofs.Common.{◌≡◌, ◌<◌, ◌-◌, ◌≤◌, ℕ, length, true, false, Some}
use Rattle.std.specs.List.{slice_get}
use Rattle.std.specs.Ordering.{is_lt}
use Rattle.id_table.specs.declared.slice.Slice.{Slice}
use Rattle.continuations.specs.Nesting.{key_cmp}
use Rattle.continuations.proofs.by_place.count_before.Given as goal

-- those in front of one bound are before the place, and those from the other on aren't
abbrev pub invariant-loop-low : goal.invariant-loop-low
invariant-loop-low l = record {
  order : l.low ≤ l.high;
  within : l.high ≤ length l.chains;
  before : (i : ℕ) (x : (ℕ × ℕ) × Slice) → i < l.low → slice_get l.chains i ≡ Some x → is_lt (key_cmp x.0 l.place) ≡ true;
  behind : (i : ℕ) (x : (ℕ × ℕ) × Slice) → l.high ≤ i → slice_get l.chains i ≡ Some x → is_lt (key_cmp x.0 l.place) ≡ false;
}

abbrev pub decreases-loop-low : goal.decreases-loop-low
decreases-loop-low l = l.high - l.low
