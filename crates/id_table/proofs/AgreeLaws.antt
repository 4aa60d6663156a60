-- Elements with one id that agree, and what stands for it.
use Rattle.std.proofs.Common.{◌≡◌, ◌∙◌, Bool, true, false, cond, not, ◌&&◌, ℕ, suc, List, [], ◌∷◌, length, refl, sym, ap, subst, inl, inr, Option, Some, None, option_map, is_some, nat_lt, arith, rules}
use Rattle.std.proofs.lemmas.Grind.{common_steps}
use Rattle.std.proofs.lemmas.Bool.{cases_Bool}
use Rattle.std.specs.List.{Contains, filter}
use Rattle.std.specs.Option.{IfSome, option_map_or}
use Rattle.ix_base.specs.declared.kind.Kind.{Kind}
use Rattle.ix_base.specs.declared.kind.Kind.TheVariants as kind
use Rattle.ix_base.specs.Alike.{alike, alike_as}
use Rattle.ix_base.specs.Asks.{only, asks, are_many, are_some, if_such}
use Rattle.ix_base.specs.Ids.{holds_id, agree, differs, sole, stands_for}
use Rattle.ix_base.specs.Kinds.{kind_of, same_kind}
use Rattle.ix_base.specs.LocatedElements.{Located, is_kind}
use Rattle.ix_base.specs.Trees.{Tree}
use Rattle.ix_base.proofs.OnceLemmas.{Contains-nil, Contains-first, Contains-cases, Contains-filter, Contains-from_filter}
use Rattle.id_table.specs.Model.{IsHeldFor, IsHolder}

some-lt : (n : ℕ) → nat_lt 0 (suc n) ≡ true
some-lt n = first_of (search rules, grind arith, grind (arith, common_steps))

pub many-two : (n : ℕ) → nat_lt 1 (suc (suc n)) ≡ true
many-two n = first_of (search rules, grind arith, grind (arith, common_steps))

-- Tests that some pass.

module _ (p : Located → Bool) (es : List Located) where
  pub some-passed : (x : Located) → Contains es x → p x ≡ true → are_some (asks es) p ≡ true
  some-passed x c h = by (filter p es) (Contains-filter p es x c h)
    where
      by : (xs : List Located) → Contains xs x → nat_lt 0 (length xs) ≡ true
      by [] k = absurd (Contains-nil x k)
      by (y ∷ ys) k = some-lt (length ys)

  pub none-passed : ((x : Located) → Contains es x → p x ≡ false) → are_some (asks es) p ≡ false
  none-passed h = by (filter p es) (λ x c. let k = Contains-from_filter p es x c in let z : true ≡ false = sym k.1 ∙ h x k.0 in cc)
    where
      by : (xs : List Located) → ((x : Located) → Contains xs x → ⊥) → nat_lt 0 (length xs) ≡ false
      by [] k = refl
      by (y ∷ ys) k = absurd (k y (Contains-first y ys))

-- Agreement.

module _ (es : List Located) (id : List ℕ) where
  pub agree-alike : agree (asks es) id ≡ true → (x y : Located) → Contains es x → Contains es y → holds_id id x ≡ true → holds_id id y ≡ true → alike x y ≡ true
  agree-alike g x y cx cy hx hy = elim (cases_Bool (alike x y)) [
    | inl e ↦ e
    | inr e ↦
        let other : (holds_id id y && not (alike x y)) ≡ true = rw (hy, e) refl in
        let some = some-passed (λ z. holds_id id z && not (alike x z)) es y cy other in
        let differ : differs (asks es) id x ≡ true = rw (hx, some) refl in
        let none : agree (asks es) id ≡ false = ap not (some-passed (differs (asks es) id) es x cx differ) in
        absurd (let z : true ≡ false = sym g ∙ none in cc)
  ]

kinds-same : (k l : Kind) (s t : Tree) → alike_as k l s t ≡ true → k ≡ l
kinds-same kind.Context kind.Context s t h = refl
kinds-same kind.Unit kind.Unit s t h = refl
kinds-same k l s t h = absurd (let z : false ≡ true = h in cc)

pub alike-kind : (x y : Located) → alike x y ≡ true → (k : Kind) → is_kind k x ≡ is_kind k y
unfolding alike
alike-kind x y h k = ap (λ l. same_kind l k) (kinds-same (kind_of x.placed) (kind_of y.placed) x.placed.tree y.placed.tree h)

-- What an index gives.

and-true : (a b : Bool) → (a && b) ≡ true → (a ≡ true) × (b ≡ true)
and-true true b h = (refl, h)
and-true false b h = absurd (let z : false ≡ true = h in cc)

and-false : (a : Bool) → (a && false) ≡ false
and-false true = refl
and-false false = refl

and-one : (a : Bool) → (a && true) ≡ a
and-one true = refl
and-one false = refl

module _ (es : List Located) (id : List ℕ) where
  abbrev IsOf : Kind → Located → Bool
  IsOf k x = holds_id id x && is_kind k x

  -- one with the id, of which all others with it are of the kind or none is
  by-one : (k : Kind) (x : Located) → Contains es x → holds_id id x ≡ true → ((y : Located) → Contains es y → holds_id id y ≡ true → is_kind k y ≡ is_kind k x)
      → is_some (if_such (is_kind k) (Some x)) ≡ are_some (asks es) (IsOf k)
  by-one k x c h same = by (is_kind k x) refl
    where
      is-not : (y : Located) → is_kind k x ≡ false → Contains es y → (b : Bool) → holds_id id y ≡ b → (b && is_kind k y) ≡ false
      is-not y e cy true hy = same y cy hy ∙ e
      is-not y e cy false hy = refl

      by : (b : Bool) → is_kind k x ≡ b → is_some (cond b (Some x) None) ≡ are_some (asks es) (IsOf k)
      by true e = sym (some-passed (IsOf k) es x c (let z : (holds_id id x && is_kind k x) ≡ true = rw (h, e) refl in z))
      by false e = sym (none-passed (IsOf k) es (λ y cy. is-not y e cy (holds_id id y) refl))

  -- those with the id
  among : (y : Located) (xs : List Located) → xs ≡ filter (holds_id id) es → Contains es y → holds_id id y ≡ true → Contains xs y
  among y xs e c h = subst (λ l. Contains l y) (sym e) (Contains-filter (holds_id id) es y c h)

  none-of : (k : Kind) → [] ≡ filter (holds_id id) es → are_some (asks es) (IsOf k) ≡ false
  none-of k e = none-passed (IsOf k) es (λ y c. by y c (holds_id id y) refl)
    where
      by : (y : Located) → Contains es y → (b : Bool) → holds_id id y ≡ b → (b && is_kind k y) ≡ false
      by y c true h = absurd (Contains-nil y (among y [] e c h))
      by y c false h = refl

  without : (k : Kind) (xs : List Located) → xs ≡ filter (holds_id id) es → false ≡ (nat_lt 1 (length xs) && agree (asks es) id)
      → is_some (if_such (is_kind k) (only xs)) ≡ (are_some (asks es) (IsOf k) && not (nat_lt 1 (length xs) && not (agree (asks es) id)))
  without k [] e a = sym (and-one (are_some (asks es) (IsOf k)) ∙ none-of k e)
  without k (x ∷ []) e a =
      let from = Contains-from_filter (holds_id id) es x (subst (λ l. Contains l x) e (Contains-first x [])) in
      by-one k x from.0 from.1 (λ y c h. elim (Contains-cases x [] y (among y (x ∷ []) e c h)) [
        | inl s ↦ ap (is_kind k) (sym s)
        | inr n ↦ absurd (Contains-nil y n)
      ])
      ∙ sym (and-one (are_some (asks es) (IsOf k)))
  without k (x ∷ y ∷ xs) e a =
      let m : nat_lt 1 (length (x ∷ y ∷ xs)) ≡ true = many-two (length xs) in
      let no : agree (asks es) id ≡ false = sym (a ∙ ap (λ b. b && agree (asks es) id) m) in
      sym ((λ i. are_some (asks es) (IsOf k) && not (m i && not (no i))) ∙ and-false (are_some (asks es) (IsOf k)))

  pub stands-by : (k : Kind) (c : Option Located) → ((x : Located) → c ≡ Some x → IsHolder es id x) → is_some c ≡ (are_many (asks es) (holds_id id) && agree (asks es) id)
      → is_some (if_such (is_kind k) (option_map_or (λ (e : Located). Some e) c (sole (asks es) id))) ≡ stands_for k (asks es) id
  stands-by k None held a = without k (filter (holds_id id) es) refl a
  stands-by k (Some x) held a =
      let i = held x refl in
      let m = and-true (are_many (asks es) (holds_id id)) (agree (asks es) id) (sym a) in
      by-one k x i.there i.holds (λ y c h. sym (alike-kind x y (agree-alike es id m.1 x y i.there c i.holds h) k))
      ∙ sym (ap (λ b. are_some (asks es) (IsOf k) && not (are_many (asks es) (holds_id id) && not b)) m.1
      ∙ ap (λ b. are_some (asks es) (IsOf k) && not b) (and-false (are_many (asks es) (holds_id id)))
      ∙ and-one (are_some (asks es) (IsOf k)))

  pub held-by : (c : Option Located) → ((x : Located) → c ≡ Some x → IsHolder es id x) → IfSome (option_map_or (λ (e : Located). Some e) c (sole (asks es) id)) (IsHeldFor es id)
  held-by (Some x) held = let i = held x refl in record { there = i.there; holds = i.holds }
  held-by None held = by (filter (holds_id id) es) refl
    where
      by : (xs : List Located) → xs ≡ filter (holds_id id) es → IfSome (only xs) (IsHeldFor es id)
      by [] e = tt
      by (x ∷ []) e = let from = Contains-from_filter (holds_id id) es x (subst (λ l. Contains l x) e (Contains-first x [])) in record { there = from.0; holds = from.1 }
      by (x ∷ y ∷ xs) e = tt

-- what holds of what is seen holds of what it is seen in
pub seen-in : {X Y : Type 0} (f : X → Y) (P : Y → Type 0) (o : Option X) (s : Option Y) → option_map f o ≡ s → IfSome s P → IfSome o (λ x. P (f x))
seen-in f P None s e h = tt
seen-in f P (Some x) s e h = subst (λ r. IfSome r P) (sym e) h

-- whether what is seen passes a test
pub seen-passes : {X : Type 0} (f : X → Located) (p : Located → Bool) (o : Option X) → option_map_or (λ x. p (f x)) o false ≡ is_some (if_such p (option_map f o))
seen-passes f p None = refl
seen-passes f p (Some x) = by (p (f x))
  where
    by : (b : Bool) → b ≡ is_some (cond b (Some (f x)) None)
    by true = refl
    by false = refl
