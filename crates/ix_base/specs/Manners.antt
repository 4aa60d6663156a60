-- How a text is written.
use Rattle.std.specs.Prelude.{ℕ, List, Option}
use Rattle.ix_base.specs.Escapes.{te_ref, ae_ref}
use Rattle.ix_base.specs.declared.escape.Manner.{Manner}
use Rattle.ix_base.specs.declared.escape.Manner.TheVariants as manner

-- what stands behind `&` in the reference of a character
abbrev pub ref_in : Manner → ℕ → Option (List ℕ)
ref_in manner.Text = te_ref
ref_in manner.Value = ae_ref
