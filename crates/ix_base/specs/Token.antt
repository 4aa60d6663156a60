-- Tokens: texts without the white space at their ends.
use Rattle.std.specs.Prelude.{ℕ, List, [], ◌∷◌, Bool, reverse, bytes_eq, if◌then◌else◌}
use Rattle.ix_base.specs.NcName.{is_white}

-- the text without the white space at its front
abbrev pub without_front : List ℕ → List ℕ
without_front [] = []
without_front (c ∷ text) = if is_white c then without_front text else c ∷ text

-- the text without the white space at its front and at its end
unfoldable pub token_of : List ℕ → List ℕ
token_of text = reverse (without_front (reverse (without_front text)))

-- no white space stands at the ends of the text
unfoldable pub is_token : List ℕ → Bool
is_token text = bytes_eq (token_of text) text
