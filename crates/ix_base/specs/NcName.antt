-- Characters, white space and names of XML (XML 1.0, productions 2, 3, 4 and 4a; Namespaces in XML 1.0, production 4). A name
-- here has no colon. Texts are lists of bytes in UTF-8.
use Rattle.std.specs.Prelude.{ℕ, ◌==◌, nat_le, Bool, false, ◌&&◌, ◌||◌, List, [], ◌∷◌}
use Rattle.std.specs.List.{list_all}
use Rattle.std.specs.Str.{chars, is_utf8}

abbrev pub lies : ℕ → ℕ → ℕ → Bool
lies low high c = nat_le low c && nat_le c high

-- tab, line feed, carriage return and space
abbrev pub is_white : ℕ → Bool
is_white c = c == 0x20 || c == 0x9 || c == 0xA || c == 0xD

-- the characters that a page may hold
unfoldable pub is_allowed : ℕ → Bool
is_allowed c = c == 0x9 || c == 0xA || c == 0xD || lies 0x20 0xD7FF c || lies 0xE000 0xFFFD c || lies 0x10000 0x10FFFF c

-- a character with which a name may begin
unfoldable pub is_name_start : ℕ → Bool
is_name_start c =
    lies 0x41 0x5A c || c == 0x5F || lies 0x61 0x7A c || lies 0xC0 0xD6 c || lies 0xD8 0xF6 c || lies 0xF8 0x2FF c
    || lies 0x370 0x37D c || lies 0x37F 0x1FFF c || lies 0x200C 0x200D c || lies 0x2070 0x218F c || lies 0x2C00 0x2FEF c
    || lies 0x3001 0xD7FF c || lies 0xF900 0xFDCF c || lies 0xFDF0 0xFFFD c || lies 0x10000 0xEFFFF c

-- a character with which a name may go on
unfoldable pub is_name_char : ℕ → Bool
is_name_char c =
    is_name_start c || c == 0x2D || c == 0x2E || lies 0x30 0x39 c || c == 0xB7 || lies 0x300 0x36F c || lies 0x203F 0x2040 c

-- a character of the first kind and any of the second
abbrev pub is_name_of : List ℕ → Bool
is_name_of [] = false
is_name_of (c ∷ cs) = is_name_start c && list_all is_name_char cs

-- a name without a colon
unfoldable pub is_ncname : List ℕ → Bool
is_ncname text = is_utf8 text && is_name_of (chars text)

-- all characters of the text are allowed ones
unfoldable pub are_allowed : List ℕ → Bool
are_allowed text = is_utf8 text && list_all is_allowed (chars text)
