-- Characters that a page has as its bytes are.
use Rattle.std.specs.Prelude.{ℕ, ◌+◌, ◌==◌, Bool, not, ◌&&◌, ◌||◌, nat_le, List, [], ◌∷◌}
use Rattle.std.specs.Char.{len_utf8}
use Rattle.std.specs.List.{list_all}
use Rattle.std.specs.Str as str
use Rattle.ix_base.specs.NcName.{is_allowed}
use Rattle.page_text.specs.Characters.{mark}
use Rattle.page_text.specs.declared.Mark.{Mark}

-- an allowed character that is neither a carriage return nor a byte order mark
abbrev pub is_plain : ℕ → Bool
is_plain c = is_allowed c && not (c == 0xD || c == 0xFEFF)

-- a text of such characters
abbrev pub are_plain : List ℕ → Bool
are_plain text = str.is_utf8 text && list_all is_plain (str.chars text)

-- characters one behind another from an offset on
abbrev pub marks_from : ℕ → List ℕ → List Mark
marks_from at [] = []
marks_from at (c ∷ cs) = mark c at ∷ marks_from (at + len_utf8 c) cs

-- a byte with which no character begins but a plain one: no control character of ASCII but tab and line feed, and not the
-- first byte of U+FEFF, U+FFFE and U+FFFF
abbrev pub is_clear : ℕ → Bool
is_clear b = b == 0x9 || b == 0xA || (nat_le 0x20 b && not (b == 0xEF))
