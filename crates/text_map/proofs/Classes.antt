-- Tables by class: what is to be said of a text after a change to the table of its class.
use Rattle.std.proofs.Common.{◌≡◌, ◌∙◌, ◌+◌, ◌-◌, ◌<◌, ◌≤◌, ◌∷◌, [], ◌||◌, ⊎_elim, ap, refl, sym, subst, ℕ, List, Bool, true, false, cond, ltb, length, get_or, set, bytes_eq, arith, is_some, None}
use Rattle.std.proofs.lemmas.Bool.{cases_eq, ltb-true}
use Rattle.std.proofs.lemmas.List.{get_or-set_other, get_or-set_same, length-set, nil_from_length}
use Rattle.std.proofs.lemmas.List.Elements.{All-set}
use Rattle.std.proofs.lemmas.Nat.{and_le_r}
use Rattle.std.proofs.lemmas.Option.{slice_get-get_or}
use Rattle.std.proofs.lemmas.Slice.Eq.{bytes_eq-Decides}
use Rattle.std.specs.List.{All}
use Rattle.std.specs.Map.{lookup}
use Rattle.std.specs.Option.{option_map_or}
use Rattle.indexmap.specs.IndexMap.{IndexMap}
use Rattle.text_map.specs.declared.class.TheConstants.{FULL}
use Rattle.text_map.specs.declared.key.Kept.{Kept}
use Rattle.text_map.specs.Hashes.{class_of, front_of, hash_of}
use Rattle.text_map.specs.Keys.{bytes}
use Rattle.text_map.specs.Tables.{AreSmall, at, has_room, in_class, kept_at, size}

-- there are classes of fewer numbers than there are classes
pub class-within : (q : List ℕ) (n : ℕ) → 0 < n → class_of q n < n
unfolding class_of
class-within q n h = let l = and_le_r (hash_of (front_of q)) (n - 1) in omega arith

module _ {X Y : Type 0} (look : X → List ℕ → Y) (d : Y) where
  -- with tables, it is said of the table of its class
  pub in_class-at : (ts : List X) (x : X) (q : List ℕ) → 0 < length ts → in_class look d ts q ≡ look (get_or ts (class_of q (length ts)) x) q
  in_class-at ts x q h =
      let l = class-within q (length ts) h in
      ap (λ o. option_map_or (λ t. look t q) o d) (slice_get-get_or ts (class_of q (length ts)) x l)

  module _ (ts : List X) (x t : X) (id : List ℕ) (i : ℕ) (is : i ≡ class_of id (length ts)) (some : 0 < length ts) where
    within : i < length ts
    within = subst (λ k. k < length ts) (sym is) (class-within id (length ts) some)

    some-set : 0 < length (set ts i t)
    some-set = subst (λ k. 0 < k) (sym (length-set ts i t)) some

    -- the table of the class is another now
    set-at : (q : List ℕ) → in_class look d (set ts i t) q ≡ look (get_or (set ts i t) (class_of q (length ts)) x) q
    set-at q = in_class-at (set ts i t) x q some-set ∙ ap (λ k. look (get_or (set ts i t) (class_of q k) x) q) (length-set ts i t)

    of-class : (q : List ℕ) → i ≡ class_of q (length ts) → in_class look d (set ts i t) q ≡ look t q
    of-class q e = set-at q ∙ ap (λ k. look (get_or (set ts i t) k x) q) (sym e) ∙ ap (λ y. look y q) (get_or-set_same ts i t x within)

    was : (q : List ℕ) → i ≡ class_of q (length ts) → in_class look d ts q ≡ look (get_or ts i x) q
    was q e = in_class-at ts x q some ∙ ap (λ k. look (get_or ts k x) q) (sym e)

    of-others : (q : List ℕ) → (class_of q (length ts) ≡ i → ⊥) → in_class look d (set ts i t) q ≡ in_class look d ts q
    of-others q n = set-at q ∙ ap (λ y. look y q) (get_or-set_other ts i (class_of q (length ts)) t x n) ∙ sym (in_class-at ts x q some)

    -- a change at a text
    pub class-changed : (g : Y → Y) → ((q : List ℕ) → look t q ≡ cond (bytes_eq q id) (g (look (get_or ts i x) q)) (look (get_or ts i x) q))
        → (q : List ℕ) → in_class look d (set ts i t) q ≡ cond (bytes_eq q id) (g (in_class look d ts q)) (in_class look d ts q)
    class-changed g h q = ⊎_elim here there (cases_eq (class_of q (length ts)) i)
      where
        here : class_of q (length ts) ≡ i → in_class look d (set ts i t) q ≡ cond (bytes_eq q id) (g (in_class look d ts q)) (in_class look d ts q)
        here e = of-class q (sym e) ∙ h q ∙ ap (λ y. cond (bytes_eq q id) (g y) y) (sym (was q (sym e)))

        by : (b : Bool) → bytes_eq q id ≡ b → (class_of q (length ts) ≡ i → ⊥) → in_class look d ts q ≡ cond b (g (in_class look d ts q)) (in_class look d ts q)
        by true e n = absurd (n (ap (λ p. class_of p (length ts)) ((bytes_eq-Decides q id).0 e) ∙ sym is))
        by false e n = refl

        there : (class_of q (length ts) ≡ i → ⊥) → in_class look d (set ts i t) q ≡ cond (bytes_eq q id) (g (in_class look d ts q)) (in_class look d ts q)
        there n = of-others q n ∙ by (bytes_eq q id) refl n

    -- a table that says the same
    pub class-same : ((q : List ℕ) → look t q ≡ look (get_or ts i x) q) → (q : List ℕ) → in_class look d (set ts i t) q ≡ in_class look d ts q
    class-same h q = ⊎_elim here (of-others q) (cases_eq (class_of q (length ts)) i)
      where
        here : class_of q (length ts) ≡ i → in_class look d (set ts i t) q ≡ in_class look d ts q
        here e = of-class q (sym e) ∙ h q ∙ sym (was q (sym e))

  -- of blank tables nothing is to be said
  pub class-blank : (ts : List X) → All (λ t. (q : List ℕ) → look t q ≡ d) ts → (q : List ℕ) → in_class look d ts q ≡ d
  class-blank [] h q = refl
  class-blank (t ∷ ts) h q =
      in_class-at (t ∷ ts) t q (omega arith) ∙ h (class_of q (length (t ∷ ts))) t (class-within q (length (t ∷ ts)) (omega arith)) q

-- How many texts a table has.

-- a table stays as small as it may be
pub stays-small : (n m full : ℕ) (b : Bool) → n ≤ cond b m (m + 1) → (b || ltb m full) ≡ true → m ≤ full → n ≤ full
stays-small n m full true h e s = omega arith
stays-small n m full false h e s = let l : m < full = ltb-true m full e in omega arith

module _ {V S : Type 0} where
  module _ (ts : List (IndexMap Kept V S)) (r t : IndexMap Kept V S) (id : List ℕ) (i : ℕ) (is : i ≡ class_of id (length ts))
      (some : 0 < length ts) where
    in-range : i < length ts
    in-range = subst (λ k. k < length ts) (sym is) (class-within id (length ts) some)

    of-table : {Y : Type 0} (look : IndexMap Kept V S → List ℕ → Y) (d : Y) → in_class look d ts id ≡ look (get_or ts i r) id
    of-table look d = in_class-at look d ts r id some ∙ ap (λ k. look (get_or ts k r) id) (sym is)

    pub class-found : kept_at ts id ≡ at (get_or ts i r) id
    class-found = of-table at None

    was-small : AreSmall ts → size (get_or ts i r) ≤ FULL
    was-small s = s i r in-range

    pub class-small : size t ≤ cond (is_some (at (get_or ts i r) id)) (size (get_or ts i r)) (size (get_or ts i r) + 1) → (is_some (kept_at ts id) || has_room ts id) ≡ true → AreSmall ts → AreSmall (set ts i t)
    class-small h e s =
        All-set (λ (y : IndexMap Kept V S). size y ≤ FULL) ts i t
        (stays-small (size t) (size (get_or ts i r)) FULL (is_some (at (get_or ts i r) id)) h
        (subst (λ b. (is_some (at (get_or ts i r) id) || b) ≡ true) (of-table (λ y p. ltb (size y) FULL) true)
        (subst (λ o. (is_some o || has_room ts id) ≡ true) (of-table at None) e)) (was-small s)) s

    pub class-smaller : size t ≤ size (get_or ts i r) → AreSmall ts → AreSmall (set ts i t)
    class-smaller h s = All-set (λ (y : IndexMap Kept V S). size y ≤ FULL) ts i t (let w = was-small s in omega arith) s

  -- Blank tables.

  module _ (old new : List (IndexMap Kept V S)) (none : length old ≡ 0) (blank : All (λ t. t.entries ≡ []) new) where
    pub kept-made : (q : List ℕ) → kept_at new q ≡ kept_at old q
    kept-made q =
        class-blank at None new (λ k d l p. ap (lookup (λ k. bytes_eq p (bytes k))) (blank k d l)) q
        ∙ sym (ap (λ ts. kept_at ts q) (nil_from_length old none))

    pub room-made : (q : List ℕ) → has_room new q ≡ has_room old q
    room-made q =
        class-blank (λ t p. ltb (size t) FULL) true new (λ k d l p. ap (λ es. ltb (length es) FULL) (blank k d l)) q
        ∙ sym (ap (λ ts. has_room ts q) (nil_from_length old none))

  pub small-made : (new : List (IndexMap Kept V S)) → All (λ t. t.entries ≡ []) new → AreSmall new
  small-made new blank = λ k d l. subst (λ es. length es ≤ FULL) (sym (blank k d l)) (omega arith)
