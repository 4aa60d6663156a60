-- Texts as keys of tables.
use Rattle.std.specs.Prelude.{◌≡◌, ℕ, List, bytes_eq, true}
use Rattle.std.proofs.Common.{◌∙◌, ap}
use Rattle.std.specs.Cmp.Lexicographic.{bytes_decides}
use Rattle.text_map.specs.Hashes.{hash_of}
use Rattle.text_map.specs.declared.key.Key.{Key}
use Rattle.text_map.specs.declared.key.Kept.{Kept}

-- the bytes of a text that a table keeps, and of one that is looked for
abbrev pub bytes : Kept → List ℕ
bytes k = k.text.now

abbrev pub sought : Key → List ℕ
sought k = k.text.now

-- a text that is looked for has the number of the text that is kept
pub alike : (j : Key) (q : List ℕ) → bytes_eq (sought j) q ≡ true → j.number ≡ hash_of q
alike j q h = j.numbered ∙ ap hash_of ((bytes_decides (sought j) q).0 h)
