-- The order of the rules is that of their ranks.
use Rattle.std.proofs.Common.{◌≡◌, ℕ, zero, suc, List, [], ◌∷◌, refl, sym, ap, ◌∙◌, cond, inl, inr}
use Rattle.std.specs.declared.cmp.Ordering.TheVariants.{Less, Equal, Greater}
use Rattle.std.specs.Ordering.{nat_cmp}
use Rattle.std.specs.Cmp.Derive.{points}
use Rattle.std.specs.Cmp.{nat_cmp_is}
use Rattle.std.proofs.Math.Nat.{zero-lt-suc}
use lib.Dec.{leb-suc-suc, eqb-suc-suc}
use denote.Struct.Field.{Field}
use denote.Enum.Declared.{Choice}
use denote.Enum.Compared.{by}
use Rattle.ix_base.specs.declared.rule.Rule.{Rule}
use Rattle.ix_base.specs.declared.rule.Rule.TheVariants as rule
use Rattle.ix_base.specs.contracts.rule.Rule.{as_values, the_parts}
use Rattle.ix_base.specs.Rules.{rank_of}
use Rattle.ix_base.specs.Breaches.{rule_cmp}

-- which variant a choice is
abbrev place : (Fss : List (List Field)) → Choice Fss → ℕ
place [] c = absurd c
place (Fs ∷ Fss) (inl x) = zero
place (Fs ∷ Fss) (inr c) = suc (place Fss c)

nat_cmp-suc : (m n : ℕ) → nat_cmp (suc m) (suc n) ≡ nat_cmp m n
nat_cmp-suc m n = λ i. cond (leb-suc-suc (suc m) n i) Less (cond (eqb-suc-suc m n i) Equal Greater)

-- a derived order without fields goes by the variants' places
by_place : (Fss : List (List Field)) (c d : Choice Fss) → by Less Greater Fss (points Equal Fss) c d ≡ nat_cmp (place Fss c) (place Fss d)
by_place [] c d = absurd c
by_place (Fs ∷ Fss) (inl x) (inl y) = nat_cmp_is zero zero Equal refl
by_place (Fs ∷ Fss) (inl x) (inr d) = nat_cmp_is zero (suc (place Fss d)) Less (zero-lt-suc (place Fss d))
by_place (Fs ∷ Fss) (inr c) (inl y) = nat_cmp_is (suc (place Fss c)) zero Greater (zero-lt-suc (place Fss c))
by_place (Fs ∷ Fss) (inr c) (inr d) = by_place Fss c d ∙ sym (nat_cmp-suc (place Fss c) (place Fss d))

place_is : (r : Rule) → place the_parts (as_values r) ≡ rank_of r
place_is rule.S1 = refl
place_is rule.S2 = refl
place_is rule.W1 = refl
place_is rule.W2 = refl
place_is rule.W3 = refl
place_is rule.W4 = refl
place_is rule.W5 = refl
place_is rule.W6 = refl
place_is rule.W7 = refl
place_is rule.W8 = refl
place_is rule.W9 = refl
place_is rule.W10 = refl
place_is rule.W11 = refl
place_is rule.W12 = refl
place_is rule.N1 = refl
place_is rule.N2 = refl
place_is rule.N3 = refl
place_is rule.N4 = refl
place_is rule.N5 = refl
place_is rule.N6 = refl
place_is rule.N7 = refl
place_is rule.N8 = refl
place_is rule.N9 = refl
place_is rule.N10 = refl
place_is rule.N11 = refl
place_is rule.N12 = refl
place_is rule.N13 = refl
place_is rule.N14 = refl
place_is rule.N15 = refl
place_is rule.N16 = refl
place_is rule.N17 = refl
place_is rule.N18 = refl
place_is rule.N19 = refl
place_is rule.N20 = refl
place_is rule.N21 = refl
place_is rule.N22 = refl
place_is rule.L1 = refl
place_is rule.L2 = refl
place_is rule.L3 = refl
place_is rule.L4 = refl
place_is rule.L5 = refl
place_is rule.L6 = refl
place_is rule.L7 = refl
place_is rule.L8 = refl
place_is rule.L9 = refl
place_is rule.L10 = refl
place_is rule.L11 = refl
place_is rule.L12 = refl
place_is rule.L13 = refl
place_is rule.L14 = refl
place_is rule.L15 = refl
place_is rule.L16 = refl
place_is rule.L17 = refl
place_is rule.V1 = refl
place_is rule.V2 = refl
place_is rule.V3 = refl
place_is rule.V4 = refl
place_is rule.V5 = refl
place_is rule.P1 = refl
place_is rule.X1 = refl
place_is rule.X2 = refl
place_is rule.X3 = refl
place_is rule.X4 = refl

pub rule_cmp-rank_of : (x y : Rule) → rule_cmp x y ≡ nat_cmp (rank_of x) (rank_of y)
rule_cmp-rank_of x y = by_place the_parts (as_values x) (as_values y) ∙ ap (λ n. nat_cmp n (place the_parts (as_values y))) (place_is x) ∙ ap (nat_cmp (rank_of x)) (place_is y)
