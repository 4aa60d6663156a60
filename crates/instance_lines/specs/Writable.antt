-- The contents that can be written.
use Rattle.std.specs.Prelude.{ℕ, suc, ◌≤◌, max, All, ℤ, pos, ◌≤ℤ◌, ◌<ℤ◌}
use Rattle.ix_base.specs.declared.limits.TheConstants.{DEEPEST_TUPLE}
use Rattle.ix_base.specs.declared.content.Content.{Content}
use Rattle.ix_base.specs.declared.content.Period.{Period}
use Rattle.ix_base.specs.declared.content.Period.TheVariants as period
use Rattle.ix_base.specs.Facts.{Facts, none, item, tuple, facts_of}

-- when the last day of the year 9999 ends
abbrev pub last_end : ℤ
last_end = pos 315537897600

-- a start, from the start of 0001-01-01 to before the end of 9999-12-31
pub record IsStart (s : ℤ) : Type 0 where
  pub least : pos 0 ≤ℤ s
  pub before : s <ℤ last_end

-- an instant or an end, from behind the start of 0001-01-01 to the end of 9999-12-31
pub record IsEnd (s : ℤ) : Type 0 where
  pub after : pos 0 <ℤ s
  pub most : s ≤ℤ last_end

abbrev pub IsTimely : Period → Type 0
IsTimely (period.Instant end) = IsEnd end
IsTimely (period.Duration start end) = IsStart start × IsEnd end
IsTimely period.Forever = Unit {0}

-- how deep tuples stand within tuples
abbrev pub depth : Facts → ℕ
depth none = 0
depth (item i rest) = depth rest
depth (tuple name id nil members rest) = max (suc (depth members)) (depth rest)

-- the content can be written
pub record IsWritable (c : Content) : Type 0 where
  pub times : All (λ x. IsTimely x.period) c.contexts
  pub tuples : depth (facts_of c.facts) ≤ DEEPEST_TUPLE
