use Rattle.std.proofs.Common.{◌≡◌, drop, chars}
use Rattle.caseless.specs.Caseless.{canonical_key}
use Rattle.tr4_dates.specs.Code.{rows_of}
use Rattle.tr4_dates.specs.Readers.{month_in}
use Rattle.tr4_dates.proofs.month.month_among.Given as goal

abbrev pub invariant-loop-name : goal.invariant-loop-name
invariant-loop-name l = month_in (rows_of l.rows) (canonical_key (chars l.text)) ≡ month_in (rows_of (drop l.name-index l.rows)) (canonical_key (chars l.text))
