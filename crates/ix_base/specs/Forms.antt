-- The forms of values.
use Rattle.std.specs.Prelude.{ℕ, ◌==◌, nat_le, Bool, true, false, not, ◌&&◌, ◌||◌, List, [], ◌∷◌, ◌++◌, if◌then◌else◌, bytes_eq, codes, ℤ, pos, neg_ℤ}
use Rattle.std.specs.List.{list_all}
use Rattle.ix_base.specs.declared.limits.TheConstants.{LARGEST_SCALE}
use Rattle.ix_base.specs.Decimals.{number_in, front_of, back_of, pointed}
use Rattle.ix_base.specs.NcName.{is_ncname, is_white}
use Rattle.ix_base.specs.Scope.{is_qname}
use Rattle.ix_base.specs.Token.{token_of}

abbrev pub is_empty : {X : Type 0} → List X → Bool
is_empty [] = true
is_empty (x ∷ xs) = false

abbrev pub is_digit : ℕ → Bool
is_digit c = nat_le 48 c && nat_le c 57

-- one or more digits
abbrev pub are_digits : List ℕ → Bool
are_digits text = list_all is_digit text && not (is_empty text)

-- digits, digits `.`, digits `.` digits, or `.` digits
abbrev pub is_unsigned : List ℕ → Bool
is_unsigned text = are_digits (front_of text ++ back_of text)

-- a text without the `+` or `-` that may stand in front
abbrev pub unsigned_of : List ℕ → List ℕ
unsigned_of [] = []
unsigned_of (c ∷ cs) = if c == 43 || c == 45 then cs else c ∷ cs

abbrev pub is_negative : List ℕ → Bool
is_negative [] = false
is_negative (c ∷ cs) = c == 45

-- an optional sign and digits
abbrev pub is_integer : List ℕ → Bool
is_integer text = are_digits (unsigned_of text)

-- an optional sign and an unsigned decimal
abbrev pub is_decimal : List ℕ → Bool
is_decimal text = is_unsigned (unsigned_of text)

-- the whole number without its sign
abbrev pub size_of : List ℕ → ℕ
size_of text = number_in (unsigned_of text)

-- a whole number with a sign
abbrev pub with_sign : Bool → ℕ → ℤ
with_sign negative n = if negative then neg_ℤ (pos n) else pos n

abbrev pub integer_of : List ℕ → ℤ
integer_of text = with_sign (is_negative text) (size_of text)

-- Normal forms of numbers.

-- digits without the zeros in front
abbrev pub without_zeros : List ℕ → List ℕ
without_zeros [] = []
without_zeros (c ∷ cs) = if c == 48 then without_zeros cs else c ∷ cs

abbrev pub signed_digits : Bool → List ℕ → List ℕ
signed_digits negative [] = codes "0"
signed_digits true (c ∷ cs) = 45 ∷ c ∷ cs
signed_digits false (c ∷ cs) = c ∷ cs

-- an integer without a `+`, without zeros in front, and zero without a sign
abbrev pub integer_form : List ℕ → List ℕ
integer_form text = signed_digits (is_negative text) (without_zeros (unsigned_of text))

-- digits, of which the first is no 0 where others follow it
abbrev pub is_whole_part : List ℕ → Bool
is_whole_part [] = false
is_whole_part (c ∷ []) = is_digit c
is_whole_part (c ∷ d ∷ cs) = is_digit c && not (c == 48) && list_all is_digit (d ∷ cs)

-- digits that don't end in 0, or none
abbrev pub is_fraction_part : List ℕ → Bool
is_fraction_part [] = true
is_fraction_part (c ∷ []) = is_digit c && not (c == 48)
is_fraction_part (c ∷ d ∷ cs) = is_digit c && is_fraction_part (d ∷ cs)

-- a decimal without sign in its canonical form
abbrev pub is_canonical_unsigned : List ℕ → Bool
is_canonical_unsigned text =
    is_whole_part (front_of text) && is_fraction_part (back_of text) && bytes_eq text (front_of text ++ pointed (back_of text))

abbrev pub is_zero : List ℕ → Bool
is_zero text = bytes_eq text (codes "0")

-- a decimal in its canonical form: a `-` may stand in front of one that isn't zero
abbrev pub is_canonical_decimal : List ℕ → Bool
is_canonical_decimal [] = false
is_canonical_decimal (c ∷ cs) = if c == 45 then is_canonical_unsigned cs && not (is_zero cs) else is_canonical_unsigned (c ∷ cs)

abbrev pub is_normal_integer : List ℕ → Bool
is_normal_integer text = is_canonical_decimal text && is_empty (back_of text)

-- a list cut at white space
abbrev pub put_front : ℕ → List (List ℕ) → List (List ℕ)
put_front c [] = (c ∷ []) ∷ []
put_front c (word ∷ words) = (c ∷ word) ∷ words

abbrev pub cut_white : List ℕ → List (List ℕ)
cut_white [] = [] ∷ []
cut_white (c ∷ cs) = if is_white c then [] ∷ cut_white cs else put_front c (cut_white cs)

abbrev pub filled : List (List ℕ) → List (List ℕ)
filled [] = []
filled ([] ∷ words) = filled words
filled ((c ∷ cs) ∷ words) = (c ∷ cs) ∷ filled words

-- the words of a text that white space parts
abbrev pub words_of : List ℕ → List (List ℕ)
words_of text = filled (cut_white text)

-- The forms of attributes.

abbrev pub is_name_token : List ℕ → Bool
is_name_token value = is_ncname (token_of value)

abbrev pub is_qname_token : List ℕ → Bool
is_qname_token value = is_qname (token_of value)

-- one or more names parted by white space
abbrev pub are_names : List ℕ → Bool
are_names value = list_all is_ncname (words_of value) && not (is_empty (words_of value))

-- `true`, `false`, `1` or `0`
abbrev pub is_true : List ℕ → Bool
is_true value = bytes_eq (token_of value) (codes "true") || bytes_eq (token_of value) (codes "1")

abbrev pub is_false : List ℕ → Bool
is_false value = bytes_eq (token_of value) (codes "false") || bytes_eq (token_of value) (codes "0")

abbrev pub is_boolean : List ℕ → Bool
is_boolean value = is_true value || is_false value

-- an integer of at most the largest scale, with either sign
abbrev pub is_scale : List ℕ → Bool
is_scale value = is_integer (token_of value) && nat_le (size_of (token_of value)) LARGEST_SCALE

abbrev pub is_sign : List ℕ → Bool
is_sign value = bytes_eq (token_of value) (codes "-")

abbrev pub is_infinite : List ℕ → Bool
is_infinite value = bytes_eq (token_of value) (codes "INF")

abbrev pub is_decimals : List ℕ → Bool
is_decimals value = is_infinite value || is_integer (token_of value)

-- an integer that isn't negative, or `INF`; `-0` isn't negative
abbrev pub is_precision : List ℕ → Bool
is_precision value =
    is_infinite value || (is_integer (token_of value) && (not (is_negative (token_of value)) || size_of (token_of value) == 0))

abbrev pub is_order : List ℕ → Bool
is_order value = is_decimal (token_of value)

-- a text of more than white space
abbrev pub is_some_token : List ℕ → Bool
is_some_token value = not (is_empty (token_of value))
