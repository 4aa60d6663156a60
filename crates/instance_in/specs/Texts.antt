-- The bytes that are read back, and what the reader answers.
use Rattle.std.specs.Prelude.{◌≡◌, ℕ, List, Result, Ok, Err}
use Rattle.ix_base.specs.declared.content.Content.{Content}
use Rattle.ix_base.specs.PlainContents.{said_of}
use Rattle.instance_lines.specs.Canonical.{canon}
use Rattle.instance_out.specs.Proper.{Proper}
use Rattle.instance_in.specs.declared.ReadBack.{ReadBack}
use Rattle.instance_in.specs.declared.ReadBack.TheVariants as fault

-- the content is proper, and the bytes are its canonical text
pub record IsTextOf (bytes : List ℕ) (c : Content) : Type 0 where
  pub proper : Proper (said_of c)
  pub text : canon c ≡ bytes

-- the answer is this content; want of memory may be answered always
abbrev pub Gives : Result Content ReadBack → Content → Type 0
Gives (Ok d) c = d ≡ c
Gives (Err fault.NotCanonical) c = ⊥
Gives (Err fault.NoMemory) c = Unit {0}
