-- Chains by the places of their first elements.
use Rattle.std.proofs.Common.{◌≡◌, ◌∙◌, ◌++◌, ◌+◌, ◌<◌, ◌≤◌, ◌⊎◌, ℕ, zero, suc, Bool, true, false, cond, List, [], ◌∷◌, length, refl, ap, sym, arith, append-nil, Option, Some, None, inl, inr, ⊎_elim, map, option_map}
use Rattle.std.proofs.lemmas.Bool.{cases_eq, cases_lt, true≢false}
use Rattle.std.proofs.lemmas.List.{length-append, map-append}
use Rattle.std.proofs.lemmas.Map.Made.{lookup-map_values}
use Rattle.std.proofs.lemmas.Option.{slice_get_within}
use Rattle.std.specs.List.{slice_get}
use Rattle.std.specs.Map.{lookup}
use Rattle.std.specs.Option.{option_or}
use Rattle.std.specs.Ordering.{is_lt}
use Rattle.std.specs.Prelude.{◌&&◌, ◌==◌}
use Rattle.std.specs.declared.cmp.Ordering.{Ordering}
use Rattle.std.specs.declared.cmp.Ordering.TheVariants.{Less}
use Rattle.indexmap.specs.IndexMap.{IndexMap}
use Rattle.ix_base.specs.LocatedElements.{Located}
use Rattle.id_table.specs.declared.slice.Slice.{Slice}
use Rattle.id_table.specs.Slices.{is_key, lists_in, put_first, slice_at, spots_in}
use Rattle.id_table.proofs.SliceLaws.{lookup-lists_in, same-key}
use Rattle.continuations.specs.ByPlace.{chains_in, IsRising}
use Rattle.continuations.specs.Model.{chain_at}
use Rattle.continuations.specs.Nesting.{key_cmp}
use Rattle.continuations.proofs.Nesting.{flip, key_total, other}
use Rattle.continuations.proofs.Numbering.{IsIn, got-at, got-behind, got-left, some-none}
use Rattle.continuations.proofs.Walking.{some-inj}

-- Places in order.

less-is : (r : Ordering) → is_lt r ≡ true → r ≡ Less
less-is Less h = refl
less-is r h = absurd (let z : false ≡ true = h in cc)

before-trans : (a b c : ℕ × ℕ) → is_lt (key_cmp a b) ≡ true → is_lt (key_cmp b c) ≡ true → is_lt (key_cmp a c) ≡ true
before-trans a b c h k = ap is_lt (key_total.trans a b c (less-is (key_cmp a b) h) (less-is (key_cmp b c) k))

behind-trans : (a b c : ℕ × ℕ) → is_lt (key_cmp a c) ≡ false → is_lt (key_cmp a b) ≡ true → is_lt (key_cmp b c) ≡ false
behind-trans a b c h k = by (is_lt (key_cmp b c)) refl where
  by : (t : Bool) → is_lt (key_cmp b c) ≡ t → is_lt (key_cmp b c) ≡ false
  by true e = absurd (true≢false (sym (before-trans a b c k e) ∙ h))
  by false e = e

-- where one of rising places is before a place, so are those in front of it
pub before-more : (es : List ((ℕ × ℕ) × Slice)) (place : ℕ × ℕ) (m : ℕ) (y : (ℕ × ℕ) × Slice) → IsRising es → slice_get es m ≡ Some y → is_lt (key_cmp y.0 place) ≡ true
    → (i : ℕ) (x : (ℕ × ℕ) × Slice) → i < m + 1 → slice_get es i ≡ Some x → is_lt (key_cmp x.0 place) ≡ true
before-more es place m y up at h i x l s =
    ⊎_elim
    (λ (same : i ≡ m). ap (λ (e : (ℕ × ℕ) × Slice). is_lt (key_cmp e.0 place)) (some-inj x y (sym s ∙ ap (slice_get es) same ∙ at)) ∙ h)
    (λ (less : i ≡ m → ⊥). before-trans x.0 y.0 place (up i m x y (omega (arith, l, less)) s at) h)
    (cases_eq i m)

-- where one of rising places isn't before a place, those behind it aren't either
pub behind-more : (es : List ((ℕ × ℕ) × Slice)) (place : ℕ × ℕ) (m : ℕ) (y : (ℕ × ℕ) × Slice) → IsRising es → slice_get es m ≡ Some y → is_lt (key_cmp y.0 place) ≡ false
    → (i : ℕ) (x : (ℕ × ℕ) × Slice) → m ≤ i → slice_get es i ≡ Some x → is_lt (key_cmp x.0 place) ≡ false
behind-more es place m y up at h i x l s =
    ⊎_elim
    (λ (same : i ≡ m). ap (λ (e : (ℕ × ℕ) × Slice). is_lt (key_cmp e.0 place)) (some-inj x y (sym s ∙ ap (slice_get es) same ∙ at)) ∙ h)
    (λ (more : i ≡ m → ⊥). behind-trans y.0 x.0 place h (up m i y x (omega (arith, l, more)) at s))
    (cases_eq i m)

got-front : {X : Type 0} (xs ys : List X) (k : ℕ) (x : X) → k < length xs → slice_get (xs ++ ys) k ≡ Some x → slice_get xs k ≡ Some x
got-front {X = X} xs ys k x l s =
    let g : (y : X) × (slice_get xs k ≡ Some y) = got-at xs k l in
    g.1 ∙ sym (got-left xs ys k g.0 g.1) ∙ s

is-last : {X : Type 0} (x y : X) → IsIn x (y ∷ []) → x ≡ y
unfolding IsIn
is-last x y (inl e) = e
is-last x y (inr h) = absurd h

-- one more behind all
pub rising-more : (es more : List ((ℕ × ℕ) × Slice)) (e : (ℕ × ℕ) × Slice) → IsRising es → more ≡ es ++ e ∷ []
    → ((i : ℕ) (x : (ℕ × ℕ) × Slice) → slice_get es i ≡ Some x → is_lt (key_cmp x.0 e.0) ≡ true) → IsRising more
rising-more es more e up grown behind i j x y l s t =
    by (ap (λ ys. slice_get ys i) (sym grown) ∙ s) (ap (λ ys. slice_get ys j) (sym grown) ∙ t) (cases_lt j (length es)) where
      by : slice_get (es ++ e ∷ []) i ≡ Some x → slice_get (es ++ e ∷ []) j ≡ Some y → (j < length es) ⊎ (length es ≤ j) → is_lt (key_cmp x.0 y.0) ≡ true
      by s t (inl b) = up i j x y l (got-front es (e ∷ []) i x (omega (arith, l, b)) s) (got-front es (e ∷ []) j y b t)
      by s t (inr b) =
          let same : y ≡ e = is-last y e (got-behind es (e ∷ []) j y b t) in
          let within : j < length (es ++ e ∷ []) = slice_get_within (es ++ e ∷ []) j y t in
          let many : length (es ++ e ∷ []) ≡ length es + 1 = length-append es (e ∷ []) in
          ap (λ (z : (ℕ × ℕ) × Slice). is_lt (key_cmp x.0 z.0)) same
          ∙ behind i x (got-front es (e ∷ []) i x (omega (arith, l, b, within, many)) s)

-- What is found.

pub found-at : (page offset : ℕ) (es : List ((ℕ × ℕ) × Slice)) (n : ℕ) (e : (ℕ × ℕ) × Slice) → slice_get es n ≡ Some e
    → ((i : ℕ) (x : (ℕ × ℕ) × Slice) → i < n → slice_get es i ≡ Some x → is_lt (key_cmp x.0 (page, offset)) ≡ true)
    → is_key page offset e.0 ≡ true → lookup (is_key page offset) es ≡ Some e.1
found-at page offset [] n e at before h = some-none e at
found-at page offset (x ∷ xs) zero e at before h =
    let same : x ≡ e = some-inj x e at in
    ap (λ b. cond b (Some x.1) (lookup (is_key page offset) xs)) (ap (λ (y : (ℕ × ℕ) × Slice). is_key page offset y.0) same ∙ h)
    ∙ ap (λ (y : (ℕ × ℕ) × Slice). Some y.1) same
found-at page offset (x ∷ xs) (suc n) e at before h =
    let zeroth : 0 < suc n = omega arith in
    ap (λ b. cond b (Some x.1) (lookup (is_key page offset) xs)) (other page offset x.0 Less (less-is (key_cmp x.0 (page, offset)) (before 0 x zeroth refl)) refl)
    ∙ found-at page offset xs n e at (λ i y l s. before (suc i) y (omega (arith, l)) s) h

-- one of rising places is found where it stands
pub found-where : (page offset : ℕ) (es : List ((ℕ × ℕ) × Slice)) (n : ℕ) (e : (ℕ × ℕ) × Slice) → IsRising es → slice_get es n ≡ Some e
    → is_key page offset e.0 ≡ true → lookup (is_key page offset) es ≡ Some e.1
found-where page offset es n e up at h =
    found-at page offset es n e at
    (λ i x l s. same-key (λ p o. is_lt (key_cmp x.0 (p, o))) page offset e.0.0 e.0.1 h ∙ up i n x e l s at) h

none-found : (page offset : ℕ) (es : List ((ℕ × ℕ) × Slice)) → ((i : ℕ) (x : (ℕ × ℕ) × Slice) → slice_get es i ≡ Some x → is_key page offset x.0 ≡ false)
    → lookup (is_key page offset) es ≡ None
none-found page offset [] h = refl
none-found page offset (x ∷ xs) h =
    ap (λ b. cond b (Some x.1) (lookup (is_key page offset) xs)) (h 0 x refl) ∙ none-found page offset xs (λ i y s. h (suc i) y s)

-- all are before the place
pub none-behind : (page offset : ℕ) (es : List ((ℕ × ℕ) × Slice)) (n : ℕ) → length es ≤ n
    → ((i : ℕ) (x : (ℕ × ℕ) × Slice) → i < n → slice_get es i ≡ Some x → is_lt (key_cmp x.0 (page, offset)) ≡ true)
    → lookup (is_key page offset) es ≡ None
none-behind page offset es n all before = none-found page offset es (λ i x s.
    let l : i < length es = slice_get_within es i x s in
    other page offset x.0 Less (less-is (key_cmp x.0 (page, offset)) (before i x (omega (arith, l, all)) s)) refl)

-- the first that isn't before the place is another one
pub none-at-first : (page offset : ℕ) (es : List ((ℕ × ℕ) × Slice)) (n : ℕ) (e : (ℕ × ℕ) × Slice) → IsRising es → slice_get es n ≡ Some e
    → ((i : ℕ) (x : (ℕ × ℕ) × Slice) → i < n → slice_get es i ≡ Some x → is_lt (key_cmp x.0 (page, offset)) ≡ true)
    → is_lt (key_cmp e.0 (page, offset)) ≡ false → is_key page offset e.0 ≡ false → lookup (is_key page offset) es ≡ None
none-at-first page offset es n e up at before first h = none-found page offset es (λ i x s. ⊎_elim
    (λ (l : i < n). other page offset x.0 Less (less-is (key_cmp x.0 (page, offset)) (before i x l s)) refl)
    (λ (m : n ≤ i). ⊎_elim
    (λ (same : i ≡ n). ap (λ (y : (ℕ × ℕ) × Slice). is_key page offset y.0) (some-inj x e (sym s ∙ ap (slice_get es) same ∙ at)) ∙ h)
    (λ (more : i ≡ n → ⊥). apart x (up n i e x (omega (arith, m, more)) at s) (is_key page offset x.0) refl)
    (cases_eq i n)) (cases_lt i n)) where
      apart : (x : (ℕ × ℕ) × Slice) → is_lt (key_cmp e.0 x.0) ≡ true → (b : Bool) → is_key page offset x.0 ≡ b → is_key page offset x.0 ≡ false
      apart x less true k = absurd (true≢false (sym less ∙ sym (same-key (λ p o. is_lt (key_cmp e.0 (p, o))) page offset x.0.0 x.0.1 k) ∙ first))
      apart x less false k = k

-- What is entered.

lookup-append : {K X : Type 0} (t : K → Bool) (xs ys : List (K × X)) → lookup t (xs ++ ys) ≡ option_or (lookup t xs) (lookup t ys)
lookup-append t [] ys = refl
lookup-append t (x ∷ xs) ys = by (t x.0) (lookup-append t xs ys) where
  by : (b : Bool) → lookup t (xs ++ ys) ≡ option_or (lookup t xs) (lookup t ys)
      → cond b (Some x.1) (lookup t (xs ++ ys)) ≡ option_or (cond b (Some x.1) (lookup t xs)) (lookup t ys)
  by true h = refl
  by false h = h

-- the chain at a place: the one in order, and else the one in the table
pub chain-is : {S : Type 0} (front : List ((ℕ × ℕ) × Slice)) (rest : IndexMap (ℕ × ℕ) Slice S) (page offset : ℕ)
    → chain_at (chains_in front rest) page offset ≡ option_or (option_map spots_in (lookup (is_key page offset) front)) (slice_at rest page offset)
chain-is front rest page offset =
    lookup-append (is_key page offset) (map (λ e. (e.0, spots_in e.1)) front) (lists_in rest)
    ∙ (λ i. option_or (lookup-map_values spots_in (is_key page offset) front i) (lookup-lists_in rest page offset i))

behind-none : (o : Option (List Located)) (b : Bool) (x : List Located) → option_or o (cond b (Some x) None) ≡ put_first o b x
behind-none None true x = refl
behind-none None false x = refl
behind-none (Some y) b x = refl

put-behind : (o p : Option (List Located)) (b : Bool) (x : List Located) → option_or o (put_first p b x) ≡ put_first (option_or o p) b x
put-behind None p b x = refl
put-behind (Some y) p b x = refl

flipped : (key : ℕ × ℕ) (page offset : ℕ) → is_key page offset key ≡ ((key.0 == page) && (key.1 == offset))
flipped key page offset = λ i. flip page key.0 i && flip offset key.1 i

-- a chain entered in order, while the table is empty
pub entered-front : {S : Type 0} (front more : List ((ℕ × ℕ) × Slice)) (rest : IndexMap (ℕ × ℕ) Slice S) (key : ℕ × ℕ) (chain : Slice) (page offset : ℕ)
    → rest.entries ≡ [] → more ≡ front ++ (key, chain) ∷ []
    → chain_at (chains_in more rest) page offset ≡ put_first (chain_at (chains_in front rest) page offset) ((key.0 == page) && (key.1 == offset)) (spots_in chain)
entered-front front more rest key chain page offset none grown =
    let kept : (ℕ × ℕ) × Slice → (ℕ × ℕ) × List Located = λ e. (e.0, spots_in e.1) in
    let alone : (es : List ((ℕ × ℕ) × Slice)) → chains_in es rest ≡ map kept es
    = λ es. ap (λ entries. map kept es ++ map kept entries) none ∙ append-nil (map kept es) in
    ap (lookup (is_key page offset)) (alone more ∙ ap (map kept) grown ∙ map-append kept front ((key, chain) ∷ []))
    ∙ lookup-append (is_key page offset) (map kept front) ((key, spots_in chain) ∷ [])
    ∙ behind-none (lookup (is_key page offset) (map kept front)) (is_key page offset key) (spots_in chain)
    ∙ (λ i. put_first (lookup (is_key page offset) (sym (alone front) i)) (flipped key page offset i) (spots_in chain))

-- a chain entered in the table
pub entered-rest : {S : Type 0} (front : List ((ℕ × ℕ) × Slice)) (rest more : IndexMap (ℕ × ℕ) Slice S) (b : Bool) (chain : Slice) (page offset : ℕ)
    → slice_at more page offset ≡ put_first (slice_at rest page offset) b (spots_in chain)
    → chain_at (chains_in front more) page offset ≡ put_first (chain_at (chains_in front rest) page offset) b (spots_in chain)
entered-rest front rest more b chain page offset h =
    let found = option_map spots_in (lookup (is_key page offset) front) in
    chain-is front more page offset ∙ ap (option_or found) h ∙ put-behind found (slice_at rest page offset) b (spots_in chain)
    ∙ ap (λ o. put_first o b (spots_in chain)) (sym (chain-is front rest page offset))
