-- Texts that are owned: where their bytes are.
use Rattle.std.specs.Prelude.{ℕ, List, string_bytes}
use Rattle.ix_base.specs.declared.text.Held.{Held}
use Rattle.ix_base.specs.declared.text.Held.TheVariants.{Short, Long}

-- the bytes of a short text or of a long one
abbrev pub held_bytes : Held → List ℕ
held_bytes (Short s) = s.bytes
held_bytes (Long s) = string_bytes s
