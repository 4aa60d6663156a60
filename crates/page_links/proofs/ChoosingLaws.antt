-- Choosing for the ids of some elements, one after another.
use Rattle.std.proofs.Common.{◌≡◌, ◌∙◌, ◌⊎◌, ap, refl, sym, subst, inl, inr, ℕ, zero, suc, ◌+◌, ◌<◌, ◌≤◌, Bool, true, false, cond, nat_lt, List, [], ◌∷◌, ◌++◌, length, map, drop, get_or, take, Option, Some, None, option_map, arith, append-nil}
use Rattle.std.specs.Borrow.{Bor}
use Rattle.std.specs.Prelude.{◌&&◌}
use Rattle.std.specs.List.{filter, slice_get}
use Rattle.std.specs.Option.{IfSome, option_map_or}
use Rattle.std.proofs.lemmas.List.{length-append, length-map, take-append-drop}
use Rattle.std.proofs.lemmas.List.Elements.{filter-append}
use Rattle.std.proofs.lemmas.Bool.{le-ltb, ltb-false, ltb-true}
use Rattle.std.proofs.lemmas.Option.{slice_get-get_or, slice_get-map}
use Rattle.ix_base.specs.declared.tree.Spot.{Spot}
use Rattle.ix_base.specs.Alike.{alike}
use Rattle.ix_base.specs.Asks.{are_many, asks}
use Rattle.ix_base.specs.Ids.{agree, foremost_of, holders, holds_id}
use Rattle.ix_base.specs.LocatedElements.{Located, located}
use Rattle.id_table.specs.declared.entries.Entry.{Entry}
use Rattle.id_table.specs.Model.{Held, IsApart, IsHolder, chosen}
use Rattle.id_table.proofs.AgreeLaws.{many-two}
use Rattle.page_links.specs.Choices.{HasChoices, choice}
use Rattle.page_links.specs.LinkTables.{none, first_kept, kept_from}
use Rattle.page_links.proofs.ChoiceLaws.{choice-held}
use Rattle.page_links.proofs.KeptLaws.{choice-by}

-- two holders at least are several
pub several-from : (n : ℕ) → 2 ≤ n → nat_lt 1 n ≡ true
several-from zero h = absurd (omega arith)
several-from (suc zero) h = absurd (omega arith)
several-from (suc (suc n)) h = many-two n

-- as many as were found
pub holders-count : (es : List Located) (id : List ℕ) (found : List Entry) → map (λ (e : Entry). located e.spot.now) found ≡ holders es id → length (holders es id) ≡ length found
holders-count es id found is = sym (ap length is) ∙ length-map found (λ (e : Entry). located e.spot.now)

-- what is to be chosen holds the id
pub choice-holder : (names : ℕ → List ℕ) (es : List Located) (id : List ℕ) (o : Option (Bor Spot)) → option_map (λ s. located s.now) o ≡ choice names es id
    → IfSome o (λ s. IsHolder es id (located s.now))
choice-holder names es id None e = tt
choice-holder names es id (Some s) e = choice-held names es id (located s.now) (sym e)

-- an element at this place doesn't hold the id
abbrev pub IsOther : List Located → List ℕ → ℕ → Type 0
IsOther es q i = option_map_or (holds_id q) (slice_get es i) false ≡ false

-- what was chosen, once the elements before this one were looked at: for the ids of these it is what all elements ask for, for all other
-- ids what those ask for that came before
abbrev pub AreChosenTo : (ℕ → List ℕ) → List Located → ℕ → ℕ → Held → Type 0
AreChosenTo names es first at h =
    (q : List ℕ) → (chosen h q ≡ choice names es q) ⊎ ((chosen h q ≡ choice names (take first es) q) × ((i : ℕ) → first ≤ i → i < at → IsOther es q i))

pub chosen-first : (names : ℕ → List ℕ) (es : List Located) (first : ℕ) (h : Held) → HasChoices names (take first es) h → AreChosenTo names es first first h
chosen-first names es first h has q = inr (has q, λ i a b. absurd (omega arith))

pub chosen-next : (names : ℕ → List ℕ) (es : List Located) (first at : ℕ) (e : Located) (h g : Held) → slice_get es at ≡ Some e
    → ((q : List ℕ) → chosen g q ≡ cond (holds_id q e) (choice names es q) (chosen h q)) → AreChosenTo names es first at h → AreChosenTo names es first (at + 1) g
chosen-next names es first at e h g is set are q = by (holds_id q e) refl (set q) (are q)
  where
    other : holds_id q e ≡ false → IsOther es q at
    other f = ap (λ o. option_map_or (holds_id q) o false) is ∙ f

    behind : (i : ℕ) → holds_id q e ≡ false → ((i : ℕ) → first ≤ i → i < at → IsOther es q i) → first ≤ i → i < at + 1 → (b : Bool) → nat_lt i at ≡ b → IsOther es q i
    behind i f away a l true n = away i a (ltb-true i at n)
    behind i f away a l false n = let z : at ≤ i = ltb-false i at n in let same : at ≡ i = omega arith in subst (IsOther es q) same (other f)

    by : (b : Bool) → holds_id q e ≡ b → chosen g q ≡ cond b (choice names es q) (chosen h q)
        → (chosen h q ≡ choice names es q) ⊎ ((chosen h q ≡ choice names (take first es) q) × ((i : ℕ) → first ≤ i → i < at → IsOther es q i))
        → (chosen g q ≡ choice names es q) ⊎ ((chosen g q ≡ choice names (take first es) q) × ((i : ℕ) → first ≤ i → i < at + 1 → IsOther es q i))
    by true f s r = inl s
    by false f s (inl k) = inl (s ∙ k)
    by false f s (inr k) = inr (s ∙ k.0, λ i a l. behind i f k.1 a l (nat_lt i at) refl)

-- an element that was looked at
pub spot-at : (spots : List (Bor Spot)) (es : List Located) (at : ℕ) (s : Bor Spot) → map (λ (x : Bor Spot). located x.now) spots ≡ es → at < length es → s ≡ get_or spots at s
    → slice_get es at ≡ Some (located s.now)
spot-at spots es at s are below is =
    let f : Bor Spot → Located = λ x. located x.now in
    let count : length es ≡ length spots = sym (ap length are) ∙ length-map spots f in
    ap (λ l. slice_get l at) (sym are) ∙ slice_get-map f spots at ∙ ap (option_map f) (slice_get-get_or spots at s (omega arith)) ∙ ap (λ x. Some (f x)) (sym is)

none-behind : (p : Located → Bool) (xs : List Located) (n : ℕ) → ((i : ℕ) → n ≤ i → i < length xs → option_map_or p (slice_get xs i) false ≡ false) → filter p (drop n xs) ≡ []
none-behind p [] zero h = refl
none-behind p [] (suc n) h = refl
none-behind p (x ∷ xs) zero h =
    ap (λ b. cond b (x ∷ filter p xs) (filter p xs)) (h 0 (omega arith) (omega arith)) ∙ none-behind p xs 0 (λ i a l. h (suc i) (omega arith) (omega arith))
none-behind p (x ∷ xs) (suc n) h = none-behind p xs n (λ i a l. h (suc i) (omega arith) (omega arith))

-- then all choices are those that all elements ask for
pub chosen-all : (names : ℕ → List ℕ) (es : List Located) (first at : ℕ) (h : Held) → length es ≤ at → AreChosenTo names es first at h → HasChoices names es h
chosen-all names es first at h whole are q = by (are q)
  where
    same : ((i : ℕ) → first ≤ i → i < at → IsOther es q i) → holders (take first es) q ≡ holders es q
    same away =
        sym (append-nil (holders (take first es) q))
        ∙ ap (λ l. holders (take first es) q ++ l) (sym (none-behind (holds_id q) es first (λ i a l. away i a (omega arith))))
        ∙ sym (filter-append (holds_id q) (take first es) (drop first es)) ∙ ap (filter (holds_id q)) (take-append-drop first es)

    by : (chosen h q ≡ choice names es q) ⊎ ((chosen h q ≡ choice names (take first es) q) × ((i : ℕ) → first ≤ i → i < at → IsOther es q i)) → chosen h q ≡ choice names es q
    by (inl k) = k
    by (inr k) =
        k.0 ∙ choice-by names (take first es) q
        ∙ ap (λ (hs : List Located). cond (nat_lt 1 (length hs)) (first_kept (kept_from alike names none hs)) None) (same k.1) ∙ sym (choice-by names es q)

-- where no two elements have one id, nothing is to be chosen, with fewer elements as with all
count-front : (p : Located → Bool) (n : ℕ) (es : List Located) → length (filter p (take n es)) ≤ length (filter p es)
count-front p n es =
    let all : length (filter p es) ≡ length (filter p (take n es)) + length (filter p (drop n es)) =
    ap (λ xs. length (filter p xs)) (sym (take-append-drop n es)) ∙ ap length (filter-append p (take n es) (drop n es))
    ∙ length-append (filter p (take n es)) (filter p (drop n es)) in
    omega arith

alone-choice : (names : ℕ → List ℕ) (es : List Located) (id : List ℕ) → are_many (asks es) (holds_id id) ≡ false → choice names es id ≡ None
alone-choice names es id h = ap (λ b. cond (b && agree (asks es) id) (foremost_of names (holders es id)) None) h

pub apart-choices : (names : ℕ → List ℕ) (h : Held) (n : ℕ) → IsApart h → HasChoices names (take n h.spots) h → HasChoices names h.spots h
apart-choices names h n apart has id =
    let front : are_many (asks (take n h.spots)) (holds_id id) ≡ false =
    let few : length (filter (holds_id id) h.spots) ≤ 1 = ltb-false 1 (length (filter (holds_id id) h.spots)) (apart.ids id) in
    let less = count-front (holds_id id) n h.spots in
    le-ltb 1 (length (filter (holds_id id) (take n h.spots))) (omega arith) in
    has id ∙ alone-choice names (take n h.spots) id front ∙ sym (alone-choice names h.spots id (apart.ids id))
