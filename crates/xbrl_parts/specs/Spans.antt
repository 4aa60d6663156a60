-- The duration between two moments.
use Rattle.std.specs.Prelude.{ℕ, nat_lt, List, Option, Some, None, if◌then◌else◌, pos}
use Rattle.ix_base.specs.declared.content.Period.{Period}
use Rattle.ix_base.specs.declared.content.Period.TheVariants as period
use Rattle.ix_base.specs.Steps.{◌>>=◌}
use Rattle.ix_base.specs.Times.{start_time, end_time}
use Rattle.ix_base.specs.Token.{token_of}

-- what the texts of a start and of an end say together
abbrev pub between : List ℕ → List ℕ → Option Period
between start_text end_text = do
  start ← start_time (token_of start_text)
  end ← end_time (token_of end_text)
  if nat_lt start end then Some (period.Duration (pos start) (pos end)) else None
