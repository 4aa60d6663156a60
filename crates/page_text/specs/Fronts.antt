-- What stands at the front of some bytes: UTF-8 by Table 3-7 of the Unicode Standard, which is bstr's `decoded`,
-- and the characters that XML 1.0 (fifth edition), section 2.2, production 2, allows.
use Rattle.std.specs.Prelude.{ℕ, Bool, ◌==◌, ◌&&◌, nat_lt, nat_le, if◌then◌else◌, List, length, slice_index, Option, Some, None}
use Rattle.bstr.specs.Utf8.{decoded}
use Rattle.ix_base.specs.NcName.{is_allowed}
use Rattle.page_text.specs.declared.fronts.Front.{Front}
use Rattle.page_text.specs.declared.fronts.Front.TheVariants.{Allowed, Banned, Part, Ill}

-- bytes that are no character: all of them can begin one, which has more bytes
abbrev pub is_part : List ℕ → Bool
is_part bs = nat_lt (length bs) 4 && ((decoded bs).size == length bs) && (nat_le 0xC2 (slice_index bs 0) && nat_le (slice_index bs 0) 0xF4)

abbrev pub front_on : Option ℕ → List ℕ → Front
front_on (Some c) bs = if is_allowed c then Allowed c else Banned
front_on None bs = if is_part bs then Part else Ill

-- an allowed character, one that isn't allowed, nothing but the first bytes of a character, or no character
abbrev pub front : List ℕ → Front
front bs = front_on (decoded bs).char bs
