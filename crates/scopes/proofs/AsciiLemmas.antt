-- Names of ASCII characters alone.
use Rattle.std.proofs.Common.{◌≡◌, ℕ, true, List, [], ◌∷◌, nat_lt, ltb-true, refl}
use Rattle.std.specs.List.{list_all}
use Rattle.std.specs.Str.{IsAscii}
use Rattle.std.proofs.lemmas.Bool.{and_parts, and_from}
use Rattle.std.proofs.lemmas.Str.{IsUtf8-from_ascii, chars-IsAscii, is_utf8-from_IsUtf8}
use Rattle.std.proofs.lemmas.Str.Ascii.{IsAscii-nil, IsAscii-cons}
use Rattle.ix_base.specs.NcName.{is_name_start, is_name_char, is_name_of, is_ncname}
use Rattle.scopes.specs.AsciiNames.{is_start, is_char, is_ascii_name}

all-parts : (cs : List ℕ) → list_all is_char cs ≡ true → IsAscii cs × (list_all is_name_char cs ≡ true)
all-parts [] h = (IsAscii-nil, refl)
all-parts (c ∷ cs) h =
    let z = and_parts (is_char c) (list_all is_char cs) h in
    let here = and_parts (nat_lt c 128) (is_name_char c) z.0 in
    let rest = all-parts cs z.1 in (
      IsAscii-cons c cs (ltb-true c 128 here.0) rest.0,
      and_from (is_name_char c) (list_all is_name_char cs) here.1 rest.1,
    )

name-parts : (text : List ℕ) → is_ascii_name text ≡ true → IsAscii text × (is_name_of text ≡ true)
name-parts [] h = (IsAscii-nil, h)
name-parts (c ∷ cs) h =
    let z = and_parts (is_start c) (list_all is_char cs) h in
    let here = and_parts (nat_lt c 128) (is_name_start c) z.0 in
    let rest = all-parts cs z.1 in (
      IsAscii-cons c cs (ltb-true c 128 here.0) rest.0,
      and_from (is_name_start c) (list_all is_name_char cs) here.1 rest.1,
    )

-- each of them is a name
pub ascii_ncname : (text : List ℕ) → is_ascii_name text ≡ true → is_ncname text ≡ true
unfolding is_ncname
ascii_ncname text h =
    let p = name-parts text h in
    rw (is_utf8-from_IsUtf8 text (IsUtf8-from_ascii text p.0), chars-IsAscii text p.0) p.1
