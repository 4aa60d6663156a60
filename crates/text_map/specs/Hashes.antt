-- Numbers that go by texts.
use Rattle.std.specs.Prelude.{ℕ, ◌-◌, List, bit_and, length, take}
use Rattle.std.specs.Hash.FoldHasher as folding

-- a number that goes by the bytes of a text
unfoldable pub hash_of : List ℕ → ℕ
hash_of q = folding.finish (folding.write folding.initial q)

-- a text without its last two bytes
abbrev pub front_of : List ℕ → List ℕ
front_of q = take (length q - 2) q

-- the class of a text among so many: their number is a power of two
unfoldable pub class_of : List ℕ → ℕ → ℕ
class_of q n = bit_and (hash_of (front_of q)) (n - 1)
