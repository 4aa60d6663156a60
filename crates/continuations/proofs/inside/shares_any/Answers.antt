use Rattle.std.proofs.Common.{◌≡◌, ◌∙◌, ◌+◌, ◌<◌, ℕ, Bool, true, false, List, Option, [], ◌∷◌, ap, length, refl, subst, sym, get_or, take}
use Rattle.std.proofs.lemmas.List.{take_more}
use Rattle.std.specs.List.{list_any}
use Rattle.std.specs.Prelude.{◌==◌, ◌||◌}
use Rattle.std.proofs.lemmas.List.Folds.{list_any_at}
use Rattle.std.proofs.lemmas.Bool.{eq-eqb, eqb-true, true≢false}
use Rattle.continuations.specs.InnerElements.{SharesAny}
use Rattle.continuations.specs.Visits.{Shared}
use Rattle.continuations.proofs.SeenLaws.{any-append}
use Rattle.continuations.proofs.inside.shares_any.Goals as goal

pub returns-then-share : goal.returns-then-share
returns-then-share c =
    let y = get_or c.args.numbers.now c.loop-y.y-index 0 in
    ((λ _. (y, list_any_at (λ n. y == n) c.args.numbers.now c.loop-y.y-index 0 c.loop-y-test.true (eq-eqb y y refl), c.share.ensures.0 c.if-share.true)), (λ _. refl))

none-more : (ns : List (Option ℕ)) (first x : ℕ) (numbers : List ℕ) (i : ℕ) → i < length numbers → (SharesAny ns first (take i numbers) x → ⊥)
    → (Shared ns first (length ns) x (get_or numbers i 0) → ⊥) → SharesAny ns first (take (i + 1) numbers) x → ⊥
none-more ns first x numbers i l before here s = by (list_any p (take i numbers)) refl where
  p : ℕ → Bool
  p n = s.0 == n

  k : ℕ
  k = get_or numbers i 0

  last : (b : Bool) → (false || (b || false)) ≡ true → b ≡ true
  last true h = refl
  last false h = h

  by : (b : Bool) → list_any p (take i numbers) ≡ b → ⊥
  by true t = before (s.0, t, s.2)
  by false f =
      let whole : (list_any p (take i numbers) || (p k || false)) ≡ true
      = sym (ap (list_any p) (take_more numbers i 0 l) ∙ any-append p (take i numbers) (k ∷ [])) ∙ s.1 in
      here (subst (Shared ns first (length ns) x) (eqb-true s.0 k (last (p k) (ap (λ b. b || (p k || false)) (sym f) ∙ whole))) s.2)

pub loop-y-preserved : goal.loop-y-preserved
loop-y-preserved c =
    none-more c.args.courses.now.nexts.now c.args.courses.now.first c.args.x c.args.numbers.now c.loop-y.y-index c.loop-y-test.true c.loop-y.invariant
    (λ s. true≢false (sym (c.share.ensures.1 s) ∙ c.if-share.false))
