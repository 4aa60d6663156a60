-- What a reader answers is what is due.
use Rattle.std.specs.Prelude.{ℕ, List}
use Rattle.ix_base.specs.declared.content.Content.{Content}
use Rattle.instance_in.specs.Texts.{IsTextOf}
use Rattle.set_rows.specs.declared.instances.due.Due.{Due}
use Rattle.set_rows.specs.declared.instances.due.Due.TheVariants.{NotCanonical, ReadBack}

-- the bytes are the canonical text of a proper content, or of none
abbrev pub IsAsDue : Due → List ℕ → Type 0
IsAsDue ReadBack bytes = (c : Content) × IsTextOf bytes c
IsAsDue NotCanonical bytes = (c : Content) → IsTextOf bytes c → ⊥
