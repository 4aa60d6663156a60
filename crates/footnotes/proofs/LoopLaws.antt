-- Elements of lists that are gone through.
use Rattle.std.proofs.Common.{◌≡◌, ◌∙◌, ◌++◌, ◌+◌, ◌<◌, ℕ, suc, Bool, true, false, cond, List, [], ◌∷◌, length, take, drop, get_or, refl, sym, ap, Some, None, add-one, take-append-drop, subst, ◌||◌}
use Rattle.std.proofs.Math.Seq.{drop-cons}
use Rattle.std.proofs.lemmas.List.{map-append}
use Rattle.std.specs.Borrow.{Bor}
use Rattle.std.specs.List.{Contains, filter, find, list_any}
use Rattle.std.proofs.lemmas.List.Elements.{Contains-append_right}
use Rattle.ix_base.proofs.OnceLemmas.{Contains-first, Contains-from_filter}
use Rattle.ix_base.specs.LinkRules.{is_relationship}
use Rattle.footnotes.specs.declared.relationships.Relationship.{Relationship}
use Rattle.footnotes.specs.NamedEnds.{all_seen, seen}
use Rattle.ix_base.specs.LocatedElements.{Located, located}
use Rattle.ix_base.specs.declared.tree.Spot.{Spot}
use Rattle.id_table.specs.Tables.{all_located}
use Rattle.footnotes.proofs.EndLaws.{any-append}

-- what is in front of an element, the element, and what is behind it
pub split-at : {X : Type 0} (xs : List X) (i : ℕ) (x : X) → i < length xs → x ≡ get_or xs i x → xs ≡ take i xs ++ x ∷ drop (i + 1) xs
split-at xs i x h e =
    sym (take-append-drop i xs) ∙ ap (λ l. take i xs ++ l) (drop-cons xs i x h)
    ∙ ap (λ y. take i xs ++ y ∷ drop (suc i) xs) (sym e) ∙ ap (λ k. take i xs ++ x ∷ drop k xs) (sym (add-one i))

pub located-split : (xs : List (Bor Spot)) (i : ℕ) (x : Bor Spot) → i < length xs → x ≡ get_or xs i x
    → all_located xs ≡ all_located (take i xs) ++ located x.now ∷ all_located (drop (i + 1) xs)
located-split xs i x h e = ap all_located (split-at xs i x h e) ∙ map-append (λ (s : Bor Spot). located s.now) (take i xs) (x ∷ drop (i + 1) xs)

find-first : (p : Located → Bool) (y : Located) (ys : List Located) → p y ≡ true → find p (y ∷ ys) ≡ Some y
find-first p y ys e = ap (λ b. cond b (Some y) (find p ys)) e

find-behind : (p : Located → Bool) (xs : List Located) (y : Located) (ys : List Located) → find p xs ≡ None → p y ≡ true → find p (xs ++ y ∷ ys) ≡ Some y
find-behind p [] y ys n e = find-first p y ys e
find-behind p (x ∷ xs) y ys n e = by_cases (p x) (find-behind p xs y ys) n where
  by_cases : (b : Bool) → (find p xs ≡ None → p y ≡ true → find p (xs ++ y ∷ ys) ≡ Some y) → cond b (Some x) (find p xs) ≡ None
      → cond b (Some x) (find p (xs ++ y ∷ ys)) ≡ Some y
  by_cases true k g = absurd (cc)
  by_cases false k g = k g e

-- the first one that passes
pub found-at : (p : Located → Bool) (xs : List (Bor Spot)) (i : ℕ) (x : Bor Spot) → i < length xs → x ≡ get_or xs i x
    → find p (all_located (take i xs)) ≡ None → p (located x.now) ≡ true → find p (all_located xs) ≡ Some (located x.now)
found-at p xs i x h e n t = ap (find p) (located-split xs i x h e) ∙ find-behind p (all_located (take i xs)) (located x.now) _ n t

find-more : (p : Located → Bool) (xs : List Located) (y : Located) → find p xs ≡ None → p y ≡ false → find p (xs ++ y ∷ []) ≡ None
find-more p [] y n e = ap (λ b. cond b (Some y) None) e
find-more p (x ∷ xs) y n e = by_cases (p x) (find-more p xs y) n where
  by_cases : (b : Bool) → (find p xs ≡ None → p y ≡ false → find p (xs ++ y ∷ []) ≡ None) → cond b (Some x) (find p xs) ≡ None
      → cond b (Some x) (find p (xs ++ y ∷ [])) ≡ None
  by_cases true k g = absurd (cc)
  by_cases false k g = k g e

pub none-more : (p : Located → Bool) (xs now : List Located) (y : Located) → now ≡ xs ++ y ∷ [] → find p xs ≡ None → p y ≡ false → find p now ≡ None
none-more p xs now y n h e = ap (find p) n ∙ find-more p xs y h e

or-right : (b c : Bool) → b ≡ true → (c || (b || false)) ≡ true
or-right b true e = refl
or-right b false e = ap (λ x. x || false) e

or-mid : (b c d : Bool) → b ≡ true → (c || (b || d)) ≡ true
or-mid b true d e = refl
or-mid b false d e = ap (λ x. x || d) e

-- one that passes
pub passes-at : (p : Located → Bool) (xs : List (Bor Spot)) (i : ℕ) (x : Bor Spot) → i < length xs → x ≡ get_or xs i x → p (located x.now) ≡ true
    → list_any p (all_located xs) ≡ true
passes-at p xs i x h e t =
    ap (list_any p) (located-split xs i x h e) ∙ any-append p (all_located (take i xs)) (located x.now ∷ all_located (drop (i + 1) xs))
    ∙ or-mid (p (located x.now)) (list_any p (all_located (take i xs))) _ t

-- a relationship among those that were found is one
pub seen-at : (xs : List Relationship) (es : List Located) (i : ℕ) (x : Relationship) → all_seen xs ≡ filter is_relationship es → i < length xs → x ≡ get_or xs i x
    → is_relationship (seen x) ≡ true
seen-at xs es i x s h e =
    let there : Contains (all_seen (take i xs) ++ seen x ∷ all_seen (drop (i + 1) xs)) (seen x) =
    Contains-append_right (all_seen (take i xs)) (seen x ∷ all_seen (drop (i + 1) xs)) (seen x) (Contains-first (seen x) (all_seen (drop (i + 1) xs))) in
    let all : all_seen xs ≡ all_seen (take i xs) ++ seen x ∷ all_seen (drop (i + 1) xs) =
    ap all_seen (split-at xs i x h e) ∙ map-append seen (take i xs) (x ∷ drop (i + 1) xs) in
    (Contains-from_filter is_relationship es (seen x) (subst (λ l. Contains l (seen x)) (sym all ∙ s) there)).1
