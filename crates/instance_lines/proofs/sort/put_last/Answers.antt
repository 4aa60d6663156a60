use Rattle.std.proofs.Common.{◌≡◌, ◌∙◌, ap, sym, ◌++◌, ◌∷◌, [], List, ℕ, ◌-◌, length, take, true, arith}
use Rattle.instance_lines.specs.Keys.{by_key, ties_last, with_last}
use Rattle.instance_lines.specs.declared.sort.Keyed.{Keyed}
use Rattle.instance_lines.proofs.LastLaws.{with_last-tie, with_last-behind}
use Rattle.instance_lines.proofs.sort.put_last.Goals.{then-ends_with_key+in-Some-1, then-ends_with_key+in-None-1, else-ends_with_key}
use Rattle.instance_lines.proofs.sort.put_last.Goals as goal

tied : {T : Type 0} (old kept : List (Keyed T)) (n : ℕ) (x : Keyed T) → n ≡ length old - 1 → kept ≡ take n old → ties_last by_key old x ≡ true
    → kept ++ x ∷ [] ≡ with_last by_key old x
tied old kept n x last left ties = ap (λ l. l ++ x ∷ []) left ∙ sym (with_last-tie by_key old n x last ties)

pub returns : goal.returns
returns g c =
    let old = c.args.kept.now.items in
    let told = ap (λ l. ties_last by_key l c.args.one) (sym c.as_slice.ensures.value) ∙ sym c.ends_with_key.ensures in
    c.in_ok-push.ensures.items
    ∙ elim c.if-ends_with_key.branch as (λ _. c.if-ends_with_key.kept.items ++ c.args.one ∷ [] ≡ with_last by_key old c.args.one) [
      | then-ends_with_key+in-Some-1 w ↦ tied old _ _ c.args.one (omega arith) (ap (λ v. v.items) w.kept-is ∙ w.pop.ensures.rest) (told ∙ w.if-ends_with_key.true)
      | then-ends_with_key+in-None-1 w ↦ tied old _ _ c.args.one (omega arith) (ap (λ v. v.items) w.kept-is ∙ w.pop.ensures.rest) (told ∙ w.if-ends_with_key.true)
      | else-ends_with_key w ↦ ap (λ v. v.items ++ c.args.one ∷ []) w.kept-is
          ∙ sym (with_last-behind by_key old c.args.one (told ∙ w.if-ends_with_key.false))
    ]
