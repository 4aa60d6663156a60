-- What a report says of the breaches that were found.
use Rattle.std.specs.Prelude.{ℕ, List, [], ◌∷◌, filter, map, Bool, slice_index_or, All, ◌≤◌}
use Rattle.std.specs.declared.cmp.Ordering.{Ordering}
use Rattle.std.specs.Ordering.{nat_cmp, on, then_cmp}
use Rattle.std.specs.Cmp.Lexicographic.{slice_cmp}
use Rattle.ix_base.specs.declared.rule.Rule.{Rule}
use Rattle.ix_base.specs.declared.rule.Rule.TheVariants as rule
use Rattle.ix_base.specs.declared.breach.Class.{Class}
use Rattle.ix_base.specs.declared.breach.Class.TheVariants as class
use Rattle.ix_base.specs.declared.breach.Found.{Found}
use Rattle.ix_base.specs.declared.breach.Breach.{Breach}
use Rattle.ix_base.specs.contracts.rule.RuleOrd.TheImpl.{ghosts as rules}
use Rattle.ix_base.specs.contracts.breach.ClassPartialEq.TheImpl.{ghosts as classes}
use Rattle.ix_base.specs.Once.{in_order}

abbrev pub class_of : Rule → Class
class_of rule.S1 = class.S
class_of rule.S2 = class.S
class_of rule.W1 = class.W
class_of rule.W2 = class.W
class_of rule.W3 = class.W
class_of rule.W4 = class.W
class_of rule.W5 = class.W
class_of rule.W6 = class.W
class_of rule.W7 = class.W
class_of rule.W8 = class.W
class_of rule.W9 = class.W
class_of rule.W10 = class.W
class_of rule.W11 = class.W
class_of rule.W12 = class.W
class_of rule.N1 = class.N
class_of rule.N2 = class.N
class_of rule.N3 = class.N
class_of rule.N4 = class.N
class_of rule.N5 = class.N
class_of rule.N6 = class.N
class_of rule.N7 = class.N
class_of rule.N8 = class.N
class_of rule.N9 = class.N
class_of rule.N10 = class.N
class_of rule.N11 = class.N
class_of rule.N12 = class.N
class_of rule.N13 = class.N
class_of rule.N14 = class.N
class_of rule.N15 = class.N
class_of rule.N16 = class.N
class_of rule.N17 = class.N
class_of rule.N18 = class.N
class_of rule.N19 = class.N
class_of rule.N20 = class.N
class_of rule.N21 = class.N
class_of rule.N22 = class.N
class_of rule.L1 = class.L
class_of rule.L2 = class.L
class_of rule.L3 = class.L
class_of rule.L4 = class.L
class_of rule.L5 = class.L
class_of rule.L6 = class.L
class_of rule.L7 = class.L
class_of rule.L8 = class.L
class_of rule.L9 = class.L
class_of rule.L10 = class.L
class_of rule.L11 = class.L
class_of rule.L12 = class.L
class_of rule.L13 = class.L
class_of rule.L14 = class.L
class_of rule.L15 = class.L
class_of rule.L16 = class.L
class_of rule.L17 = class.L
class_of rule.V1 = class.V
class_of rule.V2 = class.V
class_of rule.V3 = class.V
class_of rule.V4 = class.V
class_of rule.V5 = class.V
class_of rule.P1 = class.P
class_of rule.X1 = class.X
class_of rule.X2 = class.X
class_of rule.X3 = class.X
class_of rule.X4 = class.X

-- the place of a class in their order
abbrev pub class_rank : Class → ℕ
class_rank class.S = 0
class_rank class.W = 1
class_rank class.N = 2
class_rank class.L = 3
class_rank class.V = 4
class_rank class.P = 5
class_rank class.X = 6

abbrev pub all_classes : List Class
all_classes = class.S ∷ class.W ∷ class.N ∷ class.L ∷ class.V ∷ class.P ∷ class.X ∷ []

-- the first list that holds anything
abbrev pub first_any : {X : Type 0} → List (List X) → List X
first_any [] = []
first_any ([] ∷ rest) = first_any rest
first_any ((x ∷ xs) ∷ rest) = x ∷ xs

abbrev pub is_of : Class → Breach → Bool
is_of c b = classes.eq (class_of b.rule) c

abbrev pub of_class : List Breach → Class → List Breach
of_class bs c = filter (is_of c) bs

-- the breaches of the first class that has any
abbrev pub first_class : List Breach → List Breach
first_class bs = first_any (map (of_class bs) all_classes)

-- no breach is of an earlier class than b
abbrev pub IsOfFirstClass : List Breach → Breach → Type 0
IsOfFirstClass bs b = All (λ other. class_rank (class_of b.rule) ≤ class_rank (class_of other.rule)) bs

-- the order that is derived at `Rule`: it goes by `rank_of`
abbrev pub rule_cmp : Rule → Rule → Ordering
rule_cmp x y = rules.cmp x y

-- by the bytes of the page's name, then by offset, then by rule
abbrev pub breach_cmp : Breach → Breach → Ordering
breach_cmp = then_cmp (on (λ b. b.page) (slice_cmp nat_cmp)) (then_cmp (on (λ b. b.offset) nat_cmp) (on (λ b. b.rule) rule_cmp))

-- the breaches of the first class that has any, in order, each once
abbrev pub report_of : List Breach → List Breach
report_of bs = in_order breach_cmp (first_class bs)

-- what a report shows of a rule of this class that is broken: one of class S is broken by the set, and so has no page
abbrev pub shown : Class → List (List ℕ) → Found → Breach
shown class.S names f = record { page = []; offset = 0; rule = f.rule }
shown c names f = record { page = slice_index_or names f.place.page []; offset = f.place.offset; rule = f.rule }

-- a breach with the name of its page, which is at the page's number among the names
abbrev pub named : List (List ℕ) → Found → Breach
named names f = shown (class_of f.rule) names f
