-- What is said of an id doesn't depend on the order of the elements.
use Rattle.std.proofs.Common.{◌≡◌, ◌∙◌, Bool, true, false, cond, not, ◌&&◌, ◌==◌, ℕ, List, [], ◌∷◌, length, map, refl, sym, ap, subst, inl, inr, Option, Some, None, option_and_then, option_map, is_some, nat_lt, rules}
use Rattle.std.specs.Option.{IfSome, option_map_or}
use Rattle.std.specs.List.{Contains}
use Rattle.std.specs.List.Sorted.{IsPermutation}
use Rattle.std.specs.Ordering.{is_lt}
use Rattle.std.proofs.lemmas.List.Sorted.{Contains-permutation, IsPermutation-sym}
use Rattle.ix_base.specs.declared.kind.Kind.{Kind}
use Rattle.ix_base.specs.declared.kind.Kind.TheVariants as kind
use Rattle.ix_base.specs.Alike.{alike}
use Rattle.ix_base.specs.Asks.{asks, are_many, first_of, if_such, only}
use Rattle.ix_base.specs.ContextForm.{context}
use Rattle.ix_base.specs.Ids.{agree, are_doubled, context_for, foremost, foremost_of, holders, holds_id, one, place_cmp, sole, speaker, unit_for}
use Rattle.ix_base.specs.Kinds.{kind_of, same_kind}
use Rattle.ix_base.specs.LocatedElements.{Located, is_kind, located}
use Rattle.ix_base.specs.Trees.{tree_of}
use Rattle.ix_base.specs.UnitForm.{unit}
use Rattle.ix_base.specs.declared.tree.Spot.{Spot, out-Spot}
use Rattle.ix_base.specs.declared.tree.Spot as spot
use Rattle.ix_base.proofs.OnceLemmas.{Contains-nil, Contains-first, Contains-later, Contains-cases, Contains-filter, Contains-from_filter}
use Rattle.id_table.specs.declared.entries.Entry.{Entry}
use Rattle.id_table.specs.Model.{AreChosen, Held, IsHeldFor, chosen, one_held}
use Rattle.id_table.specs.Renumbering.{moved}
use Rattle.id_table.proofs.AgreeLaws.{agree-alike, alike-kind, many-two}
use Rattle.id_table.proofs.Rearranged.{asks-same}
use Rattle.id_table.proofs.Renumbered.{speaker-moved}
use Rattle.target_contents.proofs.AlikeForms.{alike-form, at_left, at_right, form_as, left-back, right-back}

-- what an element of a kind says
abbrev pub said : {X : Type 0} → Kind → (Located → Option X) → Option Located → Option X
said k form o = option_and_then form (if_such (is_kind k) o)

-- alike elements say the same
abbrev pub IsSaidAlike : {X : Type 0} → Kind → (Located → Option X) → Type 0
IsSaidAlike k form = (x y : Located) → alike x y ≡ true → is_kind k x ≡ true → form x ≡ form y

not-false : (b : Bool) → not b ≡ false → b ≡ true
not-false true h = refl
not-false false h = absurd (let z : true ≡ false = h in cc)

-- the first of some elements is one of them
pub foremost-among : (names : ℕ → List ℕ) (x : Located) (xs : List Located) → Contains (x ∷ xs) (foremost names x xs)
foremost-among names x [] = Contains-first x []
foremost-among names x (y ∷ ys) = by (is_lt (place_cmp names y x)) (foremost-among names y ys) (foremost-among names x ys)
  where
    later : (z : Located) → Contains (x ∷ ys) z → Contains (x ∷ y ∷ ys) z
    later z c = elim (Contains-cases x ys z c) [
      | inl s ↦ subst (Contains (x ∷ y ∷ ys)) s (Contains-first x (y ∷ ys))
      | inr n ↦ Contains-later x (y ∷ ys) z (Contains-later y ys z n)
    ]

    by : (b : Bool) → Contains (y ∷ ys) (foremost names y ys) → Contains (x ∷ ys) (foremost names x ys) → Contains (x ∷ y ∷ ys) (foremost names (cond b y x) ys)
    by true c d = Contains-later x (y ∷ ys) (foremost names y ys) c
    by false c d = later (foremost names x ys) d

module _ {X : Type 0} (k : Kind) (form : Located → Option X) (same : IsSaidAlike k form) where
  alike-said : (x y : Located) → alike x y ≡ true → said k form (Some x) ≡ said k form (Some y)
  alike-said x y h = by (is_kind k x) (is_kind k y) refl refl (alike-kind x y h k)
    where
      by : (b c : Bool) → is_kind k x ≡ b → is_kind k y ≡ c → is_kind k x ≡ is_kind k y → option_and_then form (cond b (Some x) None) ≡ option_and_then form (cond c (Some y) None)
      by true true e f g = same x y h e
      by false false e f g = refl
      by true false e f g = absurd (let z : true ≡ false = sym e ∙ g ∙ f in cc)
      by false true e f g = absurd (let z : false ≡ true = sym e ∙ g ∙ f in cc)

  sole-said : (z w : Located) (hs : List Located) → hs ≡ z ∷ [] → Contains hs w → z ≡ w
  sole-said z w hs e c = elim (Contains-cases z [] w (subst (λ l. Contains l w) e c)) [
    | inl s ↦ s
    | inr n ↦ absurd (Contains-nil w n)
  ]

  -- two with the id, where they don't differ
  two-said : (xs : List Located) (id : List ℕ) → are_doubled (asks xs) id ≡ false → (x y : Located) → Contains (holders xs id) x → Contains (holders xs id) y
      → said k form (Some x) ≡ said k form (Some y)
  two-said xs id d x y cx cy = by (holders xs id) refl
    where
      by : (hs : List Located) → holders xs id ≡ hs → said k form (Some x) ≡ said k form (Some y)
      by [] e = absurd (Contains-nil x (subst (λ l. Contains l x) e cx))
      by (z ∷ []) e = ap (λ w. said k form (Some w)) (sym (sole-said z x (holders xs id) e cx) ∙ sole-said z y (holders xs id) e cy)
      by (z ∷ w ∷ ws) e =
          let p = Contains-from_filter (holds_id id) xs x cx in
          let q = Contains-from_filter (holds_id id) xs y cy in
          let g : not (agree (asks xs) id) ≡ false =
          sym (ap (λ b. b && not (agree (asks xs) id)) (many-two (length ws))) ∙ sym (ap (λ l. nat_lt 1 (length l) && not (agree (asks xs) id)) e) ∙ d in
          alike-said x y (agree-alike xs id (not-false (agree (asks xs) id) g) x y p.0 q.0 p.1 q.1)

  module _ (xs ys : List Located) (m : IsPermutation xs ys) (id : List ℕ) where
    back : (y : Located) → Contains (holders ys id) y → Contains (holders xs id) y
    back y c =
        let p = Contains-from_filter (holds_id id) ys y c in
        Contains-filter (holds_id id) xs y (Contains-permutation ys xs y (IsPermutation-sym xs ys m) p.0) p.1

    there : (x : Located) → Contains (holders xs id) x → Contains (holders ys id) x
    there x c = let p = Contains-from_filter (holds_id id) xs x c in Contains-filter (holds_id id) ys x (Contains-permutation xs ys x m p.0) p.1

    heads : are_doubled (asks xs) id ≡ false → (hs ks : List Located) → holders xs id ≡ hs → holders ys id ≡ ks → said k form (first_of hs) ≡ said k form (first_of ks)
    heads d [] [] e f = refl
    heads d [] (y ∷ ks) e f = absurd (Contains-nil y (subst (λ l. Contains l y) e (back y (subst (λ l. Contains l y) (sym f) (Contains-first y ks)))))
    heads d (x ∷ hs) [] e f = absurd (Contains-nil x (subst (λ l. Contains l x) f (there x (subst (λ l. Contains l x) (sym e) (Contains-first x hs)))))
    heads d (x ∷ hs) (y ∷ ks) e f =
        two-said xs id d x y (subst (λ l. Contains l x) (sym e) (Contains-first x hs)) (back y (subst (λ l. Contains l y) (sym f) (Contains-first y ks)))

    pub said-same : said k form (speaker xs id) ≡ said k form (speaker ys id)
    said-same =
        by (are_doubled (asks xs) id) refl
        ∙ ap (λ b. said k form (cond b None (first_of (holders ys id)))) (ap (λ a. are_doubled a id) (asks-same xs ys m))
      where
        by : (b : Bool) → are_doubled (asks xs) id ≡ b → said k form (cond b None (first_of (holders xs id))) ≡ said k form (cond b None (first_of (holders ys id)))
        by true e = refl
        by false e = heads e (holders xs id) (holders ys id) refl refl

  -- The first by the pages' names says what the first that came says.

  pub one-said : (names : ℕ → List ℕ) (es : List Located) (id : List ℕ) → said k form (one names es id) ≡ said k form (speaker es id)
  one-said names es id = by (are_doubled (asks es) id) refl (holders es id) refl
    where
      by : (b : Bool) → are_doubled (asks es) id ≡ b → (hs : List Located) → holders es id ≡ hs → said k form (cond b None (foremost_of names hs)) ≡ said k form (cond b None (first_of hs))
      by true e hs f = refl
      by false e [] f = refl
      by false e (x ∷ hs) f =
          two-said es id e (foremost names x hs) x
          (subst (λ l. Contains l (foremost names x hs)) (sym f) (foremost-among names x hs)) (subst (λ l. Contains l x) (sym f) (Contains-first x hs))

  -- What an index gives says the same, where the choices are those that the elements ask for.

  and-parts : (a b : Bool) → (a && b) ≡ true → (a ≡ true) × (b ≡ true)
  and-parts true b h = (refl, h)
  and-parts false b h = absurd (let z : false ≡ true = h in cc)

  not-many : (a b : Bool) → a ≡ true → false ≡ (a && b) → b ≡ false
  not-many true b e h = sym h
  not-many false b e h = absurd (let z : false ≡ true = e in cc)

  module _ (es : List Located) (id : List ℕ) where
    pub held-said : (c : Option Located) → IfSome (option_map_or (λ (e : Located). Some e) c (sole (asks es) id)) (IsHeldFor es id)
        → is_some c ≡ (are_many (asks es) (holds_id id) && agree (asks es) id)
        → said k form (option_map_or (λ (e : Located). Some e) c (sole (asks es) id)) ≡ said k form (speaker es id)
    held-said (Some x) held a =
        let m = and-parts (are_many (asks es) (holds_id id)) (agree (asks es) id) (sym a) in
        let d : are_doubled (asks es) id ≡ false = ap (λ b. are_many (asks es) (holds_id id) && not b) m.1 ∙ and-false (are_many (asks es) (holds_id id)) in
        let here = Contains-filter (holds_id id) es x held.there held.holds in
        head d x here (holders es id) refl
      where
        and-false : (b : Bool) → (b && false) ≡ false
        and-false true = refl
        and-false false = refl

        head : are_doubled (asks es) id ≡ false → (x : Located) → Contains (holders es id) x → (hs : List Located) → holders es id ≡ hs
            → said k form (Some x) ≡ said k form (cond (are_doubled (asks es) id) None (first_of (holders es id)))
        head d x c [] e = absurd (Contains-nil x (subst (λ l. Contains l x) e c))
        head d x c (y ∷ ys) e =
            two-said es id d x y c (subst (λ l. Contains l y) (sym e) (Contains-first y ys))
            ∙ sym (λ i. said k form (cond (d i) None (first_of (e i))))
    held-said None held a = by (holders es id) refl
      where
        by : (hs : List Located) → holders es id ≡ hs → said k form (only (holders es id)) ≡ said k form (cond (are_doubled (asks es) id) None (first_of (holders es id)))
        by [] e = (λ i. said k form (only (e i))) ∙ sym (λ i. said k form (cond (nat_lt 1 (length (e i)) && not (agree (asks es) id)) None (first_of (e i))))
        by (x ∷ []) e = (λ i. said k form (only (e i))) ∙ sym (λ i. said k form (cond (nat_lt 1 (length (e i)) && not (agree (asks es) id)) None (first_of (e i))))
        by (x ∷ y ∷ ys) e =
            let m : nat_lt 1 (length (holders es id)) ≡ true = ap (λ l. nat_lt 1 (length l)) e ∙ many-two (length ys) in
            let g : agree (asks es) id ≡ false = not-many (nat_lt 1 (length (holders es id))) (agree (asks es) id) m a in
            (λ i. said k form (only (e i)))
            ∙ sym (λ i. said k form (cond (m i && not (g i)) None (first_of (holders es id))))

  held-in : {Y : Type 0} (f : Y → Located) (P : Located → Type 0) (o : Option Y) (r : Option Located) → option_map f o ≡ r → IfSome o (λ y. P (f y)) → IfSome r P
  held-in f P None r e h = subst (λ q. IfSome q P) e tt
  held-in f P (Some y) r e h = subst (λ q. IfSome q P) e h

  -- what an index gives says what speaks for the id, where the choices are those that the elements ask for
  pub given-said : {Y : Type 0} (f : Y → Located) (h : Held) (id : List ℕ) (o : Option Y) → option_map f o ≡ one_held h id → IfSome o (λ y. IsHeldFor h.spots id (f y))
      → AreChosen h → said k form (option_map f o) ≡ said k form (speaker h.spots id)
  given-said f h id o e held a =
      ap (said k form) e ∙ held-said h.spots id (chosen h id) (held-in f (IsHeldFor h.spots id) o (one_held h id) e held) (a id)

-- Contexts and units.

kind-context : (k : Kind) → same_kind k kind.Context ≡ true → k ≡ kind.Context
kind-context kind.Context h = refl
kind-context k h = absurd (let z : false ≡ true = h in cc)

kind-unit : (k : Kind) → same_kind k kind.Unit ≡ true → k ≡ kind.Unit
kind-unit kind.Unit h = refl
kind-unit k h = absurd (let z : false ≡ true = h in cc)

pub context-alike : IsSaidAlike kind.Context (λ e. context e.placed.tree)
context-alike x y h k =
    let kx = kind-context (kind_of x.placed) k in
    let ky = kind-context (kind_of y.placed) (sym (alike-kind x y h kind.Context) ∙ k) in
    let f = sym (ap (λ l. form_as l x.placed.tree) kx) ∙ alike-form x y h ∙ ap (λ l. form_as l y.placed.tree) ky in
    sym (left-back (context x.placed.tree)) ∙ ap at_left f ∙ left-back (context y.placed.tree)

pub unit-alike : IsSaidAlike kind.Unit (λ e. unit e.placed.tree)
unit-alike x y h k =
    let kx = kind-unit (kind_of x.placed) k in
    let ky = kind-unit (kind_of y.placed) (sym (alike-kind x y h kind.Unit) ∙ k) in
    let f = sym (ap (λ l. form_as l x.placed.tree) kx) ∙ alike-form x y h ∙ ap (λ l. form_as l y.placed.tree) ky in
    sym (right-back (unit x.placed.tree)) ∙ ap at_right f ∙ right-back (unit y.placed.tree)

-- in another order
pub context-shuffled : (xs ys : List Located) → IsPermutation xs ys → (id : List ℕ) → context_for xs id ≡ context_for ys id
context-shuffled xs ys m id = said-same kind.Context (λ e. context e.placed.tree) context-alike xs ys m id

pub unit-shuffled : (xs ys : List Located) → IsPermutation xs ys → (id : List ℕ) → unit_for xs id ≡ unit_for ys id
unit-shuffled xs ys m id = said-same kind.Unit (λ e. unit e.placed.tree) unit-alike xs ys m id

-- under other page numbers
module _ (r : ℕ → ℕ) (apart : (x y : ℕ) → (r x == r y) ≡ (x == y)) where
  context-by : (o : Option Located) → said kind.Context (λ e. context e.placed.tree) (option_map (moved r) o) ≡ said kind.Context (λ e. context e.placed.tree) o
  context-by None = refl
  context-by (Some e) = by (is_kind kind.Context e)
    where
      by : (b : Bool) → option_and_then (λ (x : Located). context x.placed.tree) (cond b (Some (moved r e)) None) ≡ option_and_then (λ (x : Located). context x.placed.tree) (cond b (Some e) None)
      by true = refl
      by false = refl

  unit-by : (o : Option Located) → said kind.Unit (λ e. unit e.placed.tree) (option_map (moved r) o) ≡ said kind.Unit (λ e. unit e.placed.tree) o
  unit-by None = refl
  unit-by (Some e) = by (is_kind kind.Unit e)
    where
      by : (b : Bool) → option_and_then (λ (x : Located). unit x.placed.tree) (cond b (Some (moved r e)) None) ≡ option_and_then (λ (x : Located). unit x.placed.tree) (cond b (Some e) None)
      by true = refl
      by false = refl

  pub context-moved : (es : List Located) (id : List ℕ) → context_for (map (moved r) es) id ≡ context_for es id
  context-moved es id = ap (said kind.Context (λ e. context e.placed.tree)) (speaker-moved r apart es id) ∙ context-by (speaker es id)

  pub unit-moved : (es : List Located) (id : List ℕ) → unit_for (map (moved r) es) id ≡ unit_for es id
  unit-moved es id = ap (said kind.Unit (λ e. unit e.placed.tree)) (speaker-moved r apart es id) ∙ unit-by (speaker es id)

-- the tree of an element is that of its spot
pub tree-at : (s : Spot) → (located s).placed.tree ≡ tree_of (out-Spot s).element.now
tree-at s = search (rules, spot.the_lemmas)

-- what one element says, which is of the kind or isn't
pub found-said : {X : Type 0} (k : Kind) (form : Located → Option X) (e : Located) (b : Bool) → is_kind k e ≡ b → said k form (Some e) ≡ cond b (form e) None
found-said k form e true h = ap (λ b. option_and_then form (cond b (Some e) None)) h
found-said k form e false h = ap (λ b. option_and_then form (cond b (Some e) None)) h

-- what an index gives for an id says what is said of the id
pub context_given : (h : Held) (id : List ℕ) (o : Option Entry) → option_map (λ e. located e.spot.now) o ≡ one_held h id
    → IfSome o (λ e. IsHeldFor h.spots id (located e.spot.now)) → AreChosen h
    → option_and_then (λ (e : Located). context e.placed.tree) (if_such (is_kind kind.Context) (option_map (λ e. located e.spot.now) o)) ≡ context_for h.spots id
context_given h id o e held a = given-said kind.Context (λ e. context e.placed.tree) context-alike (λ (e : Entry). located e.spot.now) h id o e held a

pub unit_given : (h : Held) (id : List ℕ) (o : Option Entry) → option_map (λ e. located e.spot.now) o ≡ one_held h id
    → IfSome o (λ e. IsHeldFor h.spots id (located e.spot.now)) → AreChosen h
    → option_and_then (λ (e : Located). unit e.placed.tree) (if_such (is_kind kind.Unit) (option_map (λ e. located e.spot.now) o)) ≡ unit_for h.spots id
unit_given h id o e held a = given-said kind.Unit (λ e. unit e.placed.tree) unit-alike (λ (e : Entry). located e.spot.now) h id o e held a
