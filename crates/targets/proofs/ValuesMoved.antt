-- The rules of values that items break, under other page numbers and in another order of the elements.
use Rattle.std.proofs.Common.{◌≡◌, ◌∙◌, ◌++◌, ap, refl, subst, sym, ℕ, List, [], ◌∷◌, map, Option, Some, None, Result}
use Rattle.std.specs.List.Sorted.{IsPermutation}
use Rattle.std.proofs.lemmas.List.{map-append}
use Rattle.std.proofs.lemmas.List.Sorted.{IsPermutation-append, IsPermutation-refl, IsPermutation-trans}
use Rattle.ix_base.specs.declared.breach.Found.{Found}
use Rattle.ix_base.specs.declared.content.Item.{Item}
use Rattle.ix_base.specs.declared.rule.Rule.{Rule}
use Rattle.ix_base.specs.LocatedElements.{Located}
use Rattle.ix_base.proofs.ExchangeLemmas.{by_exchanges}
use Rattle.footnotes.proofs.NotesSame.{swap_parts}
use Rattle.id_table.specs.Renumbering.{moved}
use Rattle.facts.specs.Verdicts.{rule_said}
use Rattle.target_contents.specs.Faults.{AreOfItems, fault_by, value_fault}
use Rattle.targets.proofs.FaultsMoved.{found_moved}

fault-moved : (r : ℕ → ℕ) (e : Located) (o : Option Rule) → fault_by (moved r e) o ≡ map (found_moved r) (fault_by e o)
fault-moved r e None = refl
fault-moved r e (Some k) = refl

module _ (r : ℕ → ℕ) (Says Says' : Located → Result Item Rule → Type 0) (says : (e : Located) (v : Result Item Rule) → Says e v → Says' (moved r e) v) where
  pub values-moved : (es : List Located) (found : List Found) → AreOfItems Says es found → AreOfItems Says' (map (moved r) es) (map (found_moved r) found)
  values-moved [] found h = ap (map (found_moved r)) h
  values-moved (e ∷ es) found h =
      let rest = h.2 in (
        h.0,
        says e h.0 h.1,
        (
          map (found_moved r) rest.0,
          values-moved es rest.0 rest.1,
          ap (map (found_moved r)) rest.2 ∙ map-append (found_moved r) (value_fault e h.0) rest.0
              ∙ ap (λ l. l ++ map (found_moved r) rest.0) (sym (fault-moved r e (rule_said h.0))),
        ),
      )

module _ (Says : Located → Result Item Rule → Type 0) where
  abbrev Shuffles : List Found → List Located → Type 0
  Shuffles found es = (more : List Found) × AreOfItems Says es more × IsPermutation found more

  exchange : (front back : List Located) (a b : Located) (found : List Found) → AreOfItems Says (front ++ a ∷ b ∷ back) found → Shuffles found (front ++ b ∷ a ∷ back)
  exchange [] back a b found h =
      let first = h.2 in
      let second = first.1 in
      let last = second.2 in
      let u = value_fault a h.0 in
      let v = value_fault b second.0 in
      let left : List Found = last.0 in
      let is : found ≡ u ++ (v ++ left) = first.2 ∙ ap (λ l. u ++ l) last.2 in (
        v ++ (u ++ left),
        (second.0, second.1, (u ++ left, (h.0, h.1, (left, last.1, refl)), refl)),
        subst (λ l. IsPermutation l (v ++ (u ++ left))) (sym is) (swap_parts [] u v left),
      )
  exchange (e ∷ front) back a b found h =
      let first = h.2 in
      let rest = exchange front back a b first.0 first.1 in
      let u = value_fault e h.0 in (
        u ++ rest.0,
        (h.0, h.1, (rest.0, rest.1, refl)),
        subst (λ l. IsPermutation l (u ++ rest.0)) (sym first.2) (IsPermutation-append u u first.0 rest.0 (IsPermutation-refl u) rest.2),
      )

  pub values-shuffled : (xs ys : List Located) → IsPermutation xs ys → (found : List Found) → AreOfItems Says xs found → Shuffles found ys
  values-shuffled xs ys m found h = by_exchanges (Shuffles found)
      (λ front back a b s. let next = exchange front back a b s.0 s.1 in (next.0, next.1, IsPermutation-trans found s.0 next.0 s.2 next.2))
      xs ys m (found, h, IsPermutation-refl found)
