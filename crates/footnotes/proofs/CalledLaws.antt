-- Elements that are found by what they are called.
use Rattle.std.proofs.Common.{◌≡◌, ◌∙◌, ◌++◌, ◌+◌, ◌<◌, ℕ, Bool, true, false, cond, List, [], ◌∷◌, length, take, get_or, map, refl, sym, ap, subst, Option, Some, None, option_map, inl, inr, ◌⊎◌, ⊎_elim}
use Rattle.std.proofs.lemmas.List.Elements.{All-head, All-tail}
use Rattle.std.proofs.lemmas.Slice.Eq.{bytes_eq-Decides}
use Rattle.std.specs.Borrow.{Bor}
use Rattle.std.specs.List.{All, Contains, filter_map}
use Rattle.std.specs.Prelude.{bytes_eq, if◌then◌else◌}
use Rattle.ix_base.specs.declared.tree.Spot.{Spot}
use Rattle.ix_base.specs.LocatedElements.{Located, located}
use Rattle.ix_base.proofs.OnceLemmas.{Contains-nil, Contains-cases}
use Rattle.id_table.specs.Tables.{all_located}
use Rattle.id_table.proofs.RowLemmas.{located-take}
use Rattle.footnotes.specs.FootnoteLinks.{label}
use Rattle.footnotes.specs.ArcLinks.{last_called}

last-more : (id : List ℕ) (xs : List Located) (e : Located) (found : Option Located)
    → last_called id (xs ++ e ∷ []) found ≡ (if bytes_eq id (label e) then Some e else last_called id xs found)
last-more id [] e found = refl
last-more id (x ∷ xs) e found = last-more id xs e (if bytes_eq id (label x) then Some x else found)

kept-by : (b : Bool) (s : Bor Spot) (old new : Option (Bor Spot)) (last : Option Located) → new ≡ cond b (Some s) old → option_map (λ (s : Bor Spot). located s.now) old ≡ last
    → option_map (λ (s : Bor Spot). located s.now) new ≡ cond b (Some (located s.now)) last
kept-by true s old new last n h = ap (option_map (λ (s : Bor Spot). located s.now)) n
kept-by false s old new last n h = ap (option_map (λ (s : Bor Spot). located s.now)) n ∙ h

-- one more element was kept for what it is called
pub called-more : (id name : List ℕ) (xs : List (Bor Spot)) (i : ℕ) (s : Bor Spot) (old new : Option (Bor Spot)) → i < length xs → s ≡ get_or xs i s
    → name ≡ label (located s.now) → new ≡ cond (bytes_eq id name) (Some s) old → option_map (λ (s : Bor Spot). located s.now) old ≡ last_called id (all_located (take i xs)) None
    → option_map (λ (s : Bor Spot). located s.now) new ≡ last_called id (all_located (take (i + 1) xs)) None
called-more id name xs i s old new h e l n k =
    kept-by (bytes_eq id (label (located s.now))) s old new (last_called id (all_located (take i xs)) None) (n ∙ ap (λ t. cond (bytes_eq id t) (Some s) old) l) k
    ∙ sym (last-more id (all_located (take i xs)) (located s.now) None)
    ∙ ap (λ l. last_called id l None) (sym (located-take xs i s h e))

-- what is made of the elements that are found for some names
pub filter_map-called : {Y : Type 0} (f : Located → Y) (at : List ℕ → Option Located) (es : List Located) (names ids : List (List ℕ))
    → ((id : List ℕ) → at id ≡ last_called id es None) → ids ≡ names → map f (filter_map at ids) ≡ map f (filter_map (λ id. last_called id es None) names)
filter_map-called f at es names ids h e = λ i. map f (filter_map (λ id. h id i) (e i))

-- of elements one of which is called so, the last that is
module _ (Q : Located → Type 0) (id : List ℕ) where
  abbrev pub IsLast : List Located → Option Located → Type 0
  IsLast xs found = (y : Located) × (last_called id xs found ≡ Some y) × Q y × (label y ≡ id)

  found-last : (xs : List Located) (found : Option Located) → ((y : Located) → found ≡ Some y → Q y × (label y ≡ id)) → All Q xs
      → ((y : Located) × (found ≡ Some y)) ⊎ Contains (map label xs) id → IsLast xs found
  found-last [] found h all there = ⊎_elim (λ f. (f.0, f.1, (h f.0 f.1).0, (h f.0 f.1).1)) (λ k. absurd (Contains-nil id k)) there
  found-last (e ∷ es) found h all there =
      by_cases (bytes_eq id (label e)) refl (λ f k t. found-last es f k (All-tail Q e es all) t) (All-head Q e es all) where
        not-it : label e ≡ id → bytes_eq id (label e) ≡ false → ⊥
        not-it s t = let yes : bytes_eq id (label e) ≡ true = (bytes_eq-Decides id (label e)).1 (sym s) in let g : true ≡ false = sym yes ∙ t in cc

        by_cases : (b : Bool) → bytes_eq id (label e) ≡ b
            → ((f : Option Located) → ((y : Located) → f ≡ Some y → Q y × (label y ≡ id)) → ((y : Located) × (f ≡ Some y)) ⊎ Contains (map label es) id → IsLast es f)
            → Q e → IsLast es (cond b (Some e) found)
        by_cases true t rest here =
            rest (Some e) (λ y s. let same : e ≡ y = cc in (subst Q same here, ap label (sym same) ∙ sym ((bytes_eq-Decides id (label e)).0 t))) (inl (e, refl))
        by_cases false t rest here =
            rest found h (⊎_elim inl (λ k. ⊎_elim (λ s. absurd (not-it s t)) inr (Contains-cases (label e) (map label es) id k)) there)

  pub last-there : (xs : List Located) → All Q xs → Contains (map label xs) id → IsLast xs None
  last-there xs all k = found-last xs None (λ y s. let f : None ≡ Some y = s in absurd (cc)) all (inr k)
