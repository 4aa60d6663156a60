-- Where the bytes of a text stand in the page.
use Rattle.std.specs.Prelude.{◌≡◌, ℕ, ◌+◌, ◌-◌, ◌==◌, List, ◌∷◌, drop, if◌then◌else◌}
use Rattle.page_constructs.specs.Constructs.{Byte, values, counted}
use Rattle.page_tree.specs.declared.pending.Places.{Places}

-- the offset of the byte at a place, which is the first or stands where the offsets rise with the bytes
abbrev pub offset_at : Places → ℕ → ℕ
offset_at p at = if at == 0 then p.start else p.base + (at - p.even)

-- The bytes are those of the text; the first stands where the places say, and so does each from a place on.
pub record IsPlaced (text : List ℕ) (p : Places) (us : List Byte) : Type 0 where
  pub says : values us ≡ text
  pub front : (u : Byte) (more : List Byte) → us ≡ u ∷ more → u.at ≡ p.start
  pub back : drop p.even us ≡ counted p.base (drop p.even text)
