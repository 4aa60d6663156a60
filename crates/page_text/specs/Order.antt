-- Characters one behind another within some bytes.
use Rattle.std.specs.Prelude.{◌≡◌, ℕ, ◌+◌, ◌≤◌, true, List, [], ◌∷◌}
use Rattle.std.specs.Char.{len_utf8}
use Rattle.ix_base.specs.NcName.{is_allowed}
use Rattle.page_text.specs.declared.Mark.{Mark}

-- allowed characters between these offsets, each behind the one before it
abbrev pub AreInOrder : ℕ → ℕ → List Mark → Type 0
AreInOrder from to [] = Unit {0}
AreInOrder from to (m ∷ ms) =
    (is_allowed m.ch ≡ true) × (from ≤ m.offset) × (m.offset + len_utf8 m.ch ≤ to) × AreInOrder (m.offset + len_utf8 m.ch) to ms
