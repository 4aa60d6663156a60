-- Worked numbers.
use Rattle.std.proofs.Common.{◌≡◌, refl, [], codes, pos, true, rules, arith, ◌∷◌, ◌++◌}
use Rattle.scale_sign.specs.Scaled.{IsNumber}

thousands : IsNumber (codes "1234.5") (pos 3) true (codes "-1234500")
thousands = record {
  body = codes "1234500";
  canonical = record {
    front = codes "1234500";
    back = [];
    leads = (search rules, λ e. absurd (let z : 49 ≡ 48 = e in omega arith));
    ends = (tt, λ rest e. absurd (elim rest as (λ r. [] ≡ r ++ 48 ∷ [] → ⊥) [ [] ↦ λ k. cc | c ∷ cs ↦ λ k. cc ] e));
    spelled = refl;
  };
  moved = refl;
  spelled = refl;
}
