-- The characters that wait to be built in, and the break that ended a page's building.
use Rattle.std.specs.Prelude.{◌≡◌, ℕ, ◌+◌, List, [], length, string_bytes}
use Rattle.page_tree.specs.Break.{Fault, fault}
use Rattle.page_constructs.specs.Constructs.{Byte}
use Rattle.page_tree.specs.TextPlaces.{IsPlaced}
use Rattle.page_tree.specs.declared.pending.Pending.{Pending}
use Rattle.page_tree.specs.declared.settle.Break.{Break}

-- these bytes of the page wait
abbrev pub Waits : Pending → List Byte → Type 0
Waits p us = IsPlaced (string_bytes p.text) p.places us

-- the byte at this offset stands right behind what waits, and is the first where nothing waits
pub record IsNext (p : Pending) (offset : ℕ) : Type 0 where
  pub behind : offset + p.places.even ≡ p.places.base + length (string_bytes p.text)
  pub first : string_bytes p.text ≡ [] → p.places.start ≡ offset

abbrev pub fault_at : Break → Fault
fault_at b = fault b.offset b.rule
