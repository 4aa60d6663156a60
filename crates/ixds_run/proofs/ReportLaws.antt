-- The report of one breach.
use Rattle.std.proofs.Common.{◌≡◌, ◌∙◌, ap, refl, [], ◌∷◌, filter, map, append-nil}
use Rattle.std.specs.List.{flat_map}
use Rattle.ix_base.specs.Breaches.{all_classes, breach_cmp, class_of, first_any, first_class, report_of}
use Rattle.ix_base.specs.Once.{in_order}
use Rattle.ix_base.specs.contracts.breach.ClassPartialEq.TheImpl.{ghosts as classes}
use Rattle.ix_base.specs.declared.breach.Breach.{Breach}
use Rattle.ix_base.specs.declared.breach.Class.{Class}
use Rattle.ix_base.specs.declared.breach.Class.TheVariants as class
use Rattle.page_verdicts.specs.Texts.{breach_line}

of_one_class : (c : Class) (b : Breach) → first_any (map (λ k. filter (λ x. classes.eq c k) (b ∷ [])) all_classes) ≡ b ∷ []
of_one_class class.S b = refl
of_one_class class.W b = refl
of_one_class class.N b = refl
of_one_class class.L b = refl
of_one_class class.V b = refl
of_one_class class.P b = refl
of_one_class class.X b = refl

first_of_one : (b : Breach) → first_class (b ∷ []) ≡ b ∷ []
first_of_one b = of_one_class (class_of b.rule) b

report_of_one : (b : Breach) → report_of (b ∷ []) ≡ b ∷ []
unfolding in_order
report_of_one b = ap (in_order breach_cmp) (first_of_one b)

pub line_of_one : (b : Breach) → flat_map breach_line (report_of (b ∷ [])) ≡ breach_line b
line_of_one b = ap (flat_map breach_line) (report_of_one b) ∙ append-nil (breach_line b)
