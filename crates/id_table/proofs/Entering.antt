-- Tables with the elements of each id, after one more.
use Rattle.std.proofs.Common.{◌≡◌, ◌∙◌, ◌++◌, ◌+◌, ◌∷◌, ◌≤◌, [], ap, arith, refl, subst, sym, ℕ, List, length, length-append, le-ltb, ltb-false, Bool, true, false, Option, Some, None, Vec, map, bytes_eq}
use Rattle.std.proofs.lemmas.List.{append-nil, map-append}
use Rattle.std.proofs.lemmas.List.Elements.{filter-append}
use Rattle.std.proofs.lemmas.Slice.Eq.{bytes_eq-Decides}
use Rattle.std.specs.Borrow.{Bor}
use Rattle.std.specs.Global.{Global}
use Rattle.std.specs.List.{filter}
use Rattle.ix_base.specs.declared.tree.Spot.{Spot}
use Rattle.ix_base.specs.Ids.{id_of}
use Rattle.ix_base.specs.LocatedElements.{Located, located, is_text}
use Rattle.text_map.specs.Texts.{Texts}
use Rattle.id_table.specs.declared.entries.Sharers.{Sharers}
use Rattle.id_table.specs.Tables.{AreAlone, Entered, HasEach, HasEntries, IsEntered, entries_at, entry_for, is_shared, spots_at}

module _ (spots now : List (Bor Spot)) (spot : Bor Spot) (more : now ≡ spots ++ spot ∷ []) where
  pub entries-entered : (old new : Texts Sharers) → HasEntries old spots → IsEntered old new (id_of (located spot.now)) spot → HasEntries new now
  entries-entered old new h e q =
      let test : Bor Spot → Bool = λ s. is_text q (id_of (located s.now)) in
      e q ∙ ap (λ xs. xs ++ map entry_for (filter test (spot ∷ []))) (h q) ∙ sym (map-append entry_for (filter test spots) (filter test (spot ∷ [])))
      ∙ ap (map entry_for) (sym (filter-append test spots (spot ∷ []))) ∙ ap (λ xs. map entry_for (filter test xs)) (sym more)

  pub each-entered : (key : Located → Option (List ℕ)) (old new : Texts (Vec (Bor Spot) Global)) → HasEach key old spots
      → Entered old new (key (located spot.now)) spot → HasEach key new now
  each-entered key old new h e q =
      let test : Bor Spot → Bool = λ s. is_text q (key (located s.now)) in
      e q ∙ ap (λ xs. xs ++ filter test (spot ∷ [])) (h q) ∙ sym (filter-append test spots (spot ∷ [])) ∙ ap (filter test) (sym more)

-- At each id at most one element stands, after one more that stands alone at its own.
pub alone-with : {X : Type 0} (old new more : List ℕ → List X) (id : Option (List ℕ)) → ((q : List ℕ) → new q ≡ old q ++ more q)
    → ((q : List ℕ) → is_text q id ≡ false → more q ≡ []) → is_shared new id ≡ false → AreAlone old → AreAlone new
alone-with old new more None e none one was q =
    subst (λ xs. length xs ≤ 1) (sym (e q ∙ ap (λ xs. old q ++ xs) (none q refl) ∙ append-nil (old q))) (was q)
alone-with old new more (Some id) e none one was q = by (bytes_eq q id) refl where
  by : (b : Bool) → bytes_eq q id ≡ b → length (new q) ≤ 1
  by true t = subst (λ x. length (new x) ≤ 1) (sym ((bytes_eq-Decides q id).0 t)) (ltb-false 1 (length (new id)) one)
  by false f = subst (λ xs. length xs ≤ 1) (sym (e q ∙ ap (λ xs. old q ++ xs) (none q f) ∙ append-nil (old q))) (was q)

pub entries-alone : (old new : Texts Sharers) (id : Option (List ℕ)) (spot : Bor Spot) → IsEntered old new id spot → is_shared (entries_at new) id ≡ false
    → AreAlone (entries_at old) → AreAlone (entries_at new)
entries-alone old new id spot e =
    alone-with (entries_at old) (entries_at new) (λ q. map entry_for (filter (λ (s : Bor Spot). is_text q id) (spot ∷ []))) id e (λ q f. rw f refl)

pub each-alone : (old new : Texts (Vec (Bor Spot) Global)) (id : Option (List ℕ)) (spot : Bor Spot) → Entered old new id spot
    → is_shared (spots_at new) id ≡ false → AreAlone (spots_at old) → AreAlone (spots_at new)
each-alone old new id spot e =
    alone-with (spots_at old) (spots_at new) (λ q. filter (λ (s : Bor Spot). is_text q id) (spot ∷ [])) id e (λ q f. rw f refl)

-- What was met again stays so.

-- where at most one element stands at each id behind more, it stood so before
pub alone-before : {X : Type 0} (old new more : List ℕ → List X) → ((q : List ℕ) → new q ≡ old q ++ more q) → AreAlone new → AreAlone old
alone-before old new more e now q =
    let one : length (new q) ≤ 1 = now q in
    let both : length (new q) ≡ length (old q) + length (more q) = ap length (e q) ∙ length-append (old q) (more q) in
    omega (arith, one, both)

-- where several stand at one id, not at each id stands one at most
pub shared-met : {X : Type 0} (at : List ℕ → List X) (id : Option (List ℕ)) → is_shared at id ≡ true → ¬ AreAlone at
shared-met at None e all = let z : false ≡ true = e in cc
shared-met at (Some q) e all = let z : false ≡ true = sym (le-ltb 1 (length (at q)) (all q)) ∙ e in cc
