-- Reports of breaches at pages that have other numbers.
use Rattle.std.proofs.Common.{◌≡◌, ◌∙◌, inl, inr, refl, subst, ⊎_elim, ℕ, List, [], ◌∷◌, map}
use Rattle.std.specs.Prelude.{slice_index_or}
use Rattle.std.specs.List.{Contains}
use Rattle.std.specs.List.Sorted.{IsPermutation}
use Rattle.std.proofs.lemmas.List.Sorted.{Contains-permutation, IsPermutation-map, IsPermutation-sym}
use Rattle.ix_base.specs.declared.breach.Found.{Found}
use Rattle.ix_base.specs.Breaches.{named, report_of}
use Rattle.ix_base.proofs.OnceLemmas.{Contains-first, Contains-nil, SameMembers-permutation}
use Rattle.ix_base.proofs.ReportLemmas.{report-same}
use Rattle.id_table.proofs.Renumbered.{map-same, map-twice}
use Rattle.target_contents.specs.declared.outcome.Outcome.{Outcome}
use Rattle.target_contents.specs.declared.outcome.Outcome.TheVariants.{Broken, Whole}
use Rattle.target_contents.specs.SetOutcomes.{FirstOf, IsReport}
use Rattle.targets.proofs.FaultsMoved.{found_moved, named-moved}

pub none-left : {X Y : Type 0} (f : X → Y) (xs : List X) (ys : List Y) → IsPermutation (map f xs) ys → ys ≡ [] → xs ≡ []
none-left f [] ys m e = refl
none-left f (x ∷ xs) ys m e = absurd (Contains-nil (f x) (subst (λ l. Contains l (f x)) e (Contains-permutation (map f (x ∷ xs)) ys (f x) m (Contains-first (f x) (map f xs)))))

pub none-right : {X Y : Type 0} (f : X → Y) (xs : List X) (ys : List Y) → IsPermutation (map f xs) ys → xs ≡ [] → ys ≡ []
none-right f xs [] m e = refl
none-right f xs (y ∷ ys) m e =
    absurd (Contains-nil y (subst (λ l. Contains (map f l) y) e (Contains-permutation (y ∷ ys) (map f xs) y (IsPermutation-sym (map f xs) (y ∷ ys) m) (Contains-first y ys))))

module _ (r : ℕ → ℕ) (ns ms : List (List ℕ)) (same : (n : ℕ) → slice_index_or ms (r n) [] ≡ slice_index_or ns n []) where
  breaches-same : (found more : List Found) → IsPermutation (map (found_moved r) found) more
      → report_of (map (named ns) found) ≡ report_of (map (named ms) more)
  breaches-same found more m =
      let now = map (named ms) more in
      report-same (map (named ns) found) now
      (SameMembers-permutation (map (named ns) found) now
      (subst (λ l. IsPermutation l now)
      (map-twice (named ms) (found_moved r) found
      ∙ map-same (λ f. named ms (found_moved r f)) (named ns) (named-moved r ns ms same) found)
      (IsPermutation-map (named ms) (map (found_moved r) found) more m)))

  pub report-moved : (found more : List Found) → IsPermutation (map (found_moved r) found) more → (o : Outcome) → IsReport ns found o → IsReport ms more o
  report-moved found more m (Broken report) h = h ∙ breaches-same found more m
  report-moved found more m (Whole targets) h = absurd h

  pub first-moved : (found more : List Found) → IsPermutation (map (found_moved r) found) more → (Else Other : Outcome → Type 0) (o : Outcome)
      → (found ≡ [] → more ≡ [] → Else o → Other o) → FirstOf ns found Else o → FirstOf ms more Other o
  first-moved found more m Else Other o then h =
      ⊎_elim (λ b. inl (λ none. b.0 (none-left (found_moved r) found more m none), report-moved found more m o b.1))
      (λ e. let none = none-right (found_moved r) found more m e.0 in inr (none, then e.0 none e.1)) h
