-- What numbers within one another agree in.
use Rattle.std.specs.Prelude.{ℕ, ℤ, Bool, not, ◌&&◌, List, Option, bytes_eq, codes, option_map}
use Rattle.std.specs.Option.{option_eq}
use Rattle.std.specs.Ordering.{int_eq}
use Rattle.ix_base.specs.ElementContent.{same_name}
use Rattle.ix_base.specs.Readers.{token_at, name_at, scale_of}
use Rattle.ix_base.specs.Trees.{Named, named, Tree}
use Rattle.ix_grammar.specs.declared.nested.Measure.{Measure}

pub record Measured : Type 0 where
  pub unit : Option (List ℕ)
  pub scale : ℤ
  pub format : Option Named

abbrev pub measured : Tree → Measured
measured t = record { unit = token_at (codes "unitRef") t; scale = scale_of t; format = name_at (codes "format") t }

abbrev pub seen : Measure → Measured
seen m = record { unit = option_map (λ u. u.now) m.unit; scale = m.scale; format = option_map named m.format }

abbrev pub agree : Measured → Measured → Bool
agree m n = option_eq bytes_eq m.unit n.unit && int_eq m.scale n.scale && option_eq same_name m.format n.format

-- a number is measured in another way
abbrev pub differs_from : Measured → Tree → Bool
differs_from m t = not (agree m (measured t))
