-- Decimals in order, told by their digits alone.
use Rattle.std.specs.Prelude.{ℕ, Bool, true, false, List, length}
use Rattle.std.specs.Cmp.Lexicographic.{slice_cmp}
use Rattle.std.specs.Ordering.{nat_cmp, ordering_then}
use Rattle.std.specs.declared.cmp.Ordering.{Ordering}
use Rattle.std.specs.declared.cmp.Ordering.TheVariants.{Less, Greater}
use Rattle.scale_sign.specs.WrittenDigits.{strip, cut}

-- two decimals without a sign, by their digits in front of the point and behind it
abbrev pub size_cmp : List ℕ → List ℕ → List ℕ → List ℕ → Ordering
size_cmp front back other_front other_back =
    ordering_then
    (ordering_then (nat_cmp (length (strip front)) (length (strip other_front))) (slice_cmp nat_cmp (strip front) (strip other_front)))
    (slice_cmp nat_cmp (cut back) (cut other_back))

-- two numbers by their signs, and else by how their sizes stand, or how they stand turned round
abbrev pub signed_cmp : Bool → Bool → Ordering → Ordering → Ordering
signed_cmp false false sizes turned = sizes
signed_cmp true true sizes turned = turned
signed_cmp true false sizes turned = Less
signed_cmp false true sizes turned = Greater
