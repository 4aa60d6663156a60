use Rattle.std.proofs.Common.{◌≡◌, ◌∙◌, ◌==◌, ℕ, List, [], ◌∷◌, Some, ap, arith, eqb-true, rules, true, length, refl, sym}
use Rattle.std.proofs.lemmas.Slice.Eq.{bytes_eq-Decides}
use Rattle.ix_base.specs.declared.tree.Name.{Name}
use Rattle.page_tree.specs.Names.{IsUnbound}
use Rattle.page_tree.specs.Spaces.{number_in}
use Rattle.page_tree.proofs.shared.is_local.Goals as goal

none : (xs : List ℕ) → (length xs == 0) ≡ true → xs ≡ []
none [] e = refl
none (x ∷ xs) e = absurd (let h : length (x ∷ xs) ≡ 0 = eqb-true (length (x ∷ xs)) 0 e in omega (arith, h))

same : (a : Name) (local : List ℕ) → (length a.ns.now == 0) ≡ true → a.number ≡ 0 → a.local.now ≡ local → IsUnbound a local
same a local e n l =
    let ns : a.ns.now ≡ [] = none a.ns.now e in record {
      name = λ i. record { ns = ns i; local = l i };
      space = λ around numbers h. ap (number_in numbers) ns ∙ sym (ap Some n);
    }

pub returns : goal.returns
returns c = λ t.
    let number : c.args.known.now.number ≡ 0 = search rules in
    same c.args.known.now c.args.local.now (sym c.is_empty.ensures ∙ c.if-not-is_empty.false) number
    ((bytes_eq-Decides c.args.known.now.local.now c.args.local.now).0 (sym c.eq.ensures ∙ t))
