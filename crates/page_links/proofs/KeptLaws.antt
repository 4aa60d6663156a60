-- What is kept of an id while elements come says how it stands among them.
use Rattle.std.proofs.Common.{◌≡◌, ◌∙◌, ◌++◌, Bool, true, false, cond, not, ◌&&◌, ℕ, suc, List, [], ◌∷◌, length, refl, sym, ap, subst, inl, inr, Option, Some, None, nat_lt, arith, rules}
use Rattle.std.proofs.lemmas.Grind.{common_steps}
use Rattle.std.proofs.lemmas.Bool.{cases_Bool}
use Rattle.std.proofs.lemmas.List.Elements.{filter-append}
use Rattle.std.specs.List.{Contains}
use Rattle.std.specs.Option.{option_map_or}
use Rattle.ix_base.specs.Alike.{alike}
use Rattle.ix_base.specs.Asks.{asks, are_some}
use Rattle.ix_base.specs.Ids.{agree, are_doubled, differs, foremost, foremost_of, holders, holds_id, id_of, one}
use Rattle.ix_base.specs.LocatedElements.{Located}
use Rattle.ix_base.proofs.OnceLemmas.{Contains-nil, Contains-first, Contains-later, Contains-cases, Contains-filter, Contains-from_filter}
use Rattle.id_table.proofs.AgreeLaws.{agree-alike, many-two, none-passed}
use Rattle.page_links.specs.LinkStates.{GoesOn, Stands, pending, resolved, doubled, id_stands}
use Rattle.page_links.specs.Choices.{choice}
use Rattle.page_links.specs.LinkTables.{Kept, none, some, parted, first_kept, is_none, is_parted, kept_from, kept_of, kept_with, never, sooner}
use Rattle.target_contents.proofs.AlikeForms.{alike-on, alike-turned}

-- how an id stands of which this is kept
abbrev pub stands_in : Kept → Stands
stands_in none = pending
stands_in (some x l) = resolved x
stands_in parted = doubled

-- Neighbours.

-- each is like the one before it
abbrev pub chain : Located → List Located → Bool
chain l [] = true
chain l (e ∷ es) = alike l e && chain e es

and-parts : (a b : Bool) → (a && b) ≡ true → (a ≡ true) × (b ≡ true)
and-parts true b h = (refl, h)
and-parts false b h = absurd (let z : false ≡ true = h in cc)

-- then each is like all after it
chain-all : (l : Located) (es : List Located) → chain l es ≡ true → (y : Located) → Contains es y → alike l y ≡ true
chain-all l [] h y c = absurd (Contains-nil y c)
chain-all l (e ∷ es) h y c =
    let p = and-parts (alike l e) (chain e es) h in
    elim (Contains-cases e es y c) [
      | inl s ↦ subst (λ z. alike l z ≡ true) s p.0
      | inr n ↦ alike-on l e y p.0 (chain-all e es p.1 y n)
    ]

-- and any two are alike, where there are two at least
chain-both : (x y : Located) (zs : List Located) → chain x (y ∷ zs) ≡ true → (a b : Located) → Contains (x ∷ y ∷ zs) a → Contains (x ∷ y ∷ zs) b → alike a b ≡ true
chain-both x y zs h a b ca cb =
    let to = chain-all x (y ∷ zs) h in
    let self : alike x x ≡ true = (let f = (and-parts (alike x y) (chain y zs) h).0 in alike-on x y x f (alike-turned x y f)) in
    let like = λ (c : Located) (k : Contains (x ∷ y ∷ zs) c). elim (Contains-cases x (y ∷ zs) c k) as (λ _. alike x c ≡ true) [
      | inl s ↦ subst (λ z. alike x z ≡ true) s self
      | inr n ↦ to c n
    ] in
    alike-on a x b (alike-turned x a (like a ca)) (like b cb)

-- what all are alike to is alike to each neighbour
all-chain : (l : Located) (es : List Located) → ((a b : Located) → Contains (l ∷ es) a → Contains (l ∷ es) b → alike a b ≡ true) → chain l es ≡ true
all-chain l [] h = refl
all-chain l (e ∷ es) h =
    let first : alike l e ≡ true = h l e (Contains-first l (e ∷ es)) (Contains-later l (e ∷ es) e (Contains-first e es)) in
    rw first (all-chain e es (λ a b ca cb. h a b (Contains-later l (e ∷ es) a ca) (Contains-later l (e ∷ es) b cb)))

module _ (es : List Located) (id : List ℕ) where
  held-back : (hs : List Located) → hs ≡ holders es id → (x : Located) → Contains hs x → Contains es x × (holds_id id x ≡ true)
  held-back hs e x c = Contains-from_filter (holds_id id) es x (subst (λ l. Contains l x) e c)

  passed-none : (hs : List Located) → hs ≡ holders es id → ((a b : Located) → Contains hs a → Contains hs b → alike a b ≡ true) → agree (asks es) id ≡ true
  passed-none hs e h = ap not (none-passed (differs (asks es) id) es (λ x cx. outer x cx (holds_id id x) refl))
    where
      among : (y : Located) → Contains es y → holds_id id y ≡ true → Contains hs y
      among y c k = subst (λ l. Contains l y) (sym e) (Contains-filter (holds_id id) es y c k)

      inner : (x y : Located) → Contains es x → holds_id id x ≡ true → Contains es y → (b : Bool) → holds_id id y ≡ b → (b && not (alike x y)) ≡ false
      inner x y cx hx cy true hy = ap not (h x y (among x cx hx) (among y cy hy))
      inner x y cx hx cy false hy = refl

      outer : (x : Located) → Contains es x → (b : Bool) → holds_id id x ≡ b → (b && are_some (asks es) (λ y. holds_id id y && not (alike x y))) ≡ false
      outer x cx true hx = none-passed (λ y. holds_id id y && not (alike x y)) es (λ y cy. inner x y cx hx cy (holds_id id y) refl)
      outer x cx false hx = refl

  -- several agree exactly where neighbours are alike
  agree-chain : (x y : Located) (zs : List Located) → x ∷ y ∷ zs ≡ holders es id → agree (asks es) id ≡ chain x (y ∷ zs)
  agree-chain x y zs e = elim (cases_Bool (agree (asks es) id)) [
    | inl g ↦ g ∙ sym (all-chain x (y ∷ zs) (λ a b ca cb.
        let p = held-back (x ∷ y ∷ zs) e a ca in
        let q = held-back (x ∷ y ∷ zs) e b cb in
        agree-alike es id g a b p.0 q.0 p.1 q.1))
    | inr g ↦ g ∙ sym (elim (cases_Bool (chain x (y ∷ zs))) [
      | inl c ↦ absurd (let z : true ≡ false = sym (passed-none (x ∷ y ∷ zs) e (chain-both x y zs c)) ∙ g in cc)
      | inr c ↦ c
    ])
  ]

  doubled-is : (hs : List Located) → hs ≡ holders es id → are_doubled (asks es) id ≡ (nat_lt 1 (length hs) && not (agree (asks es) id))
  doubled-is hs e = ap (λ l. nat_lt 1 (length l) && not (agree (asks es) id)) (sym e)

-- What is kept.

-- the last of some elements
abbrev last_of : Located → List Located → Located
last_of l [] = l
last_of l (e ∷ es) = last_of e es

pub parted-from : (like : Located → Located → Bool) (names : ℕ → List ℕ) (es : List Located) → kept_from like names parted es ≡ parted
parted-from like names [] = refl
parted-from like names (e ∷ es) = parted-from like names es

some-from : (names : ℕ → List ℕ) (x l : Located) (es : List Located)
    → kept_from alike names (some x l) es ≡ cond (chain l es) (some (foremost names x es) (last_of l es)) parted
some-from names x l [] = refl
some-from names x l (e ∷ es) = by (alike l e) (some-from names (sooner names x e) e es) (parted-from alike names es)
  where
    by : (b : Bool)
        → kept_from alike names (some (sooner names x e) e) es ≡ cond (chain e es) (some (foremost names (sooner names x e) es) (last_of e es)) parted
        → kept_from alike names parted es ≡ parted
        → kept_from alike names (cond b (some (sooner names x e) e) parted) es ≡ cond (b && chain e es) (some (foremost names x (e ∷ es)) (last_of l (e ∷ es))) parted
    by true h g = h
    by false h g = g

-- how an id stands is what is kept of its holders, one after another
pub standing-kept : (names : ℕ → List ℕ) (es : List Located) (id : List ℕ) → id_stands names es id ≡ stands_in (kept_from alike names none (holders es id))
standing-kept names es id = by (holders es id) refl
  where
    stands-cond : (b : Bool) (x l : Located) → stands_in (cond b (some x l) parted) ≡ cond b (resolved x) doubled
    stands-cond true x l = refl
    stands-cond false x l = refl

    turn : (b : Bool) (x : Located) → cond (not b) doubled (option_map_or (λ e. resolved e) (cond (not b) None (Some x)) pending) ≡ cond b (resolved x) doubled
    turn true x = refl
    turn false x = refl

    by : (hs : List Located) → hs ≡ holders es id → id_stands names es id ≡ stands_in (kept_from alike names none hs)
    by [] e =
        ap (λ b. cond b doubled (option_map_or (λ e. resolved e) (cond b None (foremost_of names (holders es id))) pending)) (doubled-is es id [] e)
        ∙ ap (λ l. option_map_or (λ e. resolved e) (foremost_of names l) pending) (sym e)
    by (x ∷ []) e =
        ap (λ b. cond b doubled (option_map_or (λ e. resolved e) (cond b None (foremost_of names (holders es id))) pending)) (doubled-is es id (x ∷ []) e)
        ∙ ap (λ l. option_map_or (λ e. resolved e) (foremost_of names l) pending) (sym e)
    by (x ∷ y ∷ zs) e =
        let d : are_doubled (asks es) id ≡ not (chain x (y ∷ zs)) =
        doubled-is es id (x ∷ y ∷ zs) e ∙ ap (λ b. b && not (agree (asks es) id)) (many-two (length zs)) ∙ ap not (agree-chain es id x y zs e) in
        (λ i. cond (d i) doubled (option_map_or (λ e. resolved e) (cond (d i) None (foremost_of names (sym e i))) pending))
        ∙ turn (chain x (y ∷ zs)) (foremost names x (y ∷ zs))
        ∙ sym (ap stands_in (some-from names x x (y ∷ zs)) ∙ stands-cond (chain x (y ∷ zs)) (foremost names x (y ∷ zs)) (last_of x (y ∷ zs)))

-- what is to be chosen where several have the id is the first that is kept
pub choice-kept : (names : ℕ → List ℕ) (es : List Located) (id : List ℕ) → nat_lt 1 (length (holders es id)) ≡ true
    → first_kept (kept_of alike names id_of es id) ≡ choice names es id
choice-kept names es id = by (holders es id) refl
  where
    firsts : (b : Bool) (x l : Located) → first_kept (cond b (some x l) parted) ≡ cond b (Some x) None
    firsts true x l = refl
    firsts false x l = refl

    by : (hs : List Located) → hs ≡ holders es id → nat_lt 1 (length (holders es id)) ≡ true → first_kept (kept_from alike names none (holders es id)) ≡ choice names es id
    by [] e m = absurd (let z : false ≡ true = ap (λ l. nat_lt 1 (length l)) e ∙ m in cc)
    by (x ∷ []) e m = absurd (let z : false ≡ true = ap (λ l. nat_lt 1 (length l)) e ∙ m in cc)
    by (x ∷ y ∷ zs) e m =
        ap (λ l. first_kept (kept_from alike names none l)) (sym e)
        ∙ ap first_kept (some-from names x x (y ∷ zs))
        ∙ firsts (chain x (y ∷ zs)) (foremost names x (y ∷ zs)) (last_of x (y ∷ zs))
        ∙ (λ i. cond (sym (agree-chain es id x y zs e) i) (foremost_of names (e i)) None)
        ∙ (λ i. cond (sym m i && agree (asks es) id) (foremost_of names (holders es id)) None)

pub no-choice : (names : ℕ → List ℕ) (es : List Located) (id : List ℕ) → nat_lt 1 (length (holders es id)) ≡ false → choice names es id ≡ None
no-choice names es id m = λ i. cond (m i && agree (asks es) id) (foremost_of names (holders es id)) None

-- it depends on the holders alone
pub choice-by : (names : ℕ → List ℕ) (es : List Located) (id : List ℕ)
    → choice names es id ≡ cond (nat_lt 1 (length (holders es id))) (first_kept (kept_from alike names none (holders es id))) None
choice-by names es id = by (nat_lt 1 (length (holders es id))) refl
  where
    by : (b : Bool) → nat_lt 1 (length (holders es id)) ≡ b → choice names es id ≡ cond b (first_kept (kept_from alike names none (holders es id))) None
    by true m = sym (choice-kept names es id m)
    by false m = no-choice names es id m

-- whether none is kept, and whether they are parted

some-lt : (n : ℕ) → nat_lt 0 (suc n) ≡ true
some-lt n = first_of (search rules, grind arith, grind (arith, common_steps))

some-never : (like : Located → Located → Bool) (names : ℕ → List ℕ) (x l : Located) (es : List Located) → is_none (kept_from like names (some x l) es) ≡ false
some-never like names x l [] = refl
some-never like names x l (e ∷ es) = by (like l e) (some-never like names (sooner names x e) e es) (ap is_none (parted-from like names es))
  where
    by : (b : Bool) → is_none (kept_from like names (some (sooner names x e) e) es) ≡ false → is_none (kept_from like names parted es) ≡ false
        → is_none (kept_from like names (cond b (some (sooner names x e) e) parted) es) ≡ false
    by true h g = h
    by false h g = g

pub none-kept : (like : Located → Located → Bool) (names : ℕ → List ℕ) (hs : List Located) → is_none (kept_from like names none hs) ≡ not (nat_lt 0 (length hs))
none-kept like names [] = refl
none-kept like names (x ∷ hs) = some-never like names x x hs ∙ sym (ap not (some-lt (length hs)))

-- tuples with one tuple id are parted where there are several
pub never-parted : (names : ℕ → List ℕ) (hs : List Located) → is_parted (kept_from never names none hs) ≡ nat_lt 1 (length hs)
never-parted names [] = refl
never-parted names (x ∷ []) = refl
never-parted names (x ∷ y ∷ hs) = ap is_parted (parted-from never names hs) ∙ sym (many-two (length hs))

abbrev doubles : Stands → Bool
doubles doubled = true
doubles s = false

-- elements with one id are parted where several have it that don't agree
pub alike-parted : (names : ℕ → List ℕ) (es : List Located) (id : List ℕ) → is_parted (kept_from alike names none (holders es id)) ≡ are_doubled (asks es) id
alike-parted names es id =
    parts (kept_from alike names none (holders es id)) ∙ ap doubles (sym (standing-kept names es id))
    ∙ by (are_doubled (asks es) id) (one names es id)
  where
    parts : (s : Kept) → is_parted s ≡ doubles (stands_in s)
    parts none = refl
    parts (some x l) = refl
    parts parted = refl

    by : (b : Bool) (o : Option Located) → doubles (cond b doubled (option_map_or (λ e. resolved e) o pending)) ≡ b
    by true o = refl
    by false None = refl
    by false (Some x) = refl

-- With more elements.

pub kept-append : (like : Located → Located → Bool) (names : ℕ → List ℕ) (k : Kept) (xs ys : List Located)
    → kept_from like names k (xs ++ ys) ≡ kept_from like names (kept_from like names k xs) ys
kept-append like names k [] ys = refl
kept-append like names k (x ∷ xs) ys = kept-append like names (kept_with like names k x) xs ys

some-goes : (names : ℕ → List ℕ) (x l : Located) (es : List Located) → GoesOn (resolved x) (stands_in (kept_from alike names (some x l) es))
some-goes names x l [] = inl (x, refl)
some-goes names x l (e ∷ es) = by (alike l e) (some-goes names (sooner names x e) e es) (parted-from alike names es)
  where
    by : (b : Bool) → GoesOn (resolved (sooner names x e)) (stands_in (kept_from alike names (some (sooner names x e) e) es)) → kept_from alike names parted es ≡ parted
        → GoesOn (resolved x) (stands_in (kept_from alike names (cond b (some (sooner names x e) e) parted) es))
    by true h g = h
    by false h g = inr (ap stands_in g)

kept-goes : (names : ℕ → List ℕ) (k : Kept) (es : List Located) → GoesOn (stands_in k) (stands_in (kept_from alike names k es))
kept-goes names none es = tt
kept-goes names (some x l) es = some-goes names x l es
kept-goes names parted es = ap stands_in (parted-from alike names es)

-- none goes back
pub standing-goes : (names : ℕ → List ℕ) (es more : List Located) (id : List ℕ) → GoesOn (id_stands names es id) (id_stands names (es ++ more) id)
standing-goes names es more id =
    let now : id_stands names (es ++ more) id ≡ stands_in (kept_from alike names (kept_from alike names none (holders es id)) (holders more id)) =
    standing-kept names (es ++ more) id
    ∙ ap (λ l. stands_in (kept_from alike names none l)) (filter-append (holds_id id) es more)
    ∙ ap stands_in (kept-append alike names none (holders es id) (holders more id)) in
    subst (λ s. GoesOn s (id_stands names (es ++ more) id)) (sym (standing-kept names es id))
    (subst (GoesOn (stands_in (kept_from alike names none (holders es id)))) (sym now)
    (kept-goes names (kept_from alike names none (holders es id)) (holders more id)))
