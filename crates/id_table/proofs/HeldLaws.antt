-- What an index gives for an id.
use Rattle.std.proofs.Common.{◌≡◌, ◌∙◌, ◌++◌, Bool, true, false, cond, not, ◌&&◌, ◌||◌, ℕ, List, [], ◌∷◌, length, map, nat_lt, Vec, All, refl, sym, ap, subst, inl, inr, Option, Some, None, option_map, bytes_eq, is_none, is_some}
use Rattle.std.proofs.lemmas.Bool.{le-ltb, ltb-false}
use Rattle.std.proofs.lemmas.List.{length-map}
use Rattle.std.proofs.lemmas.List.Elements.{All-filter, All-map, Contains-append_left}
use Rattle.std.specs.Borrow.{Bor}
use Rattle.std.specs.Global.{Global}
use Rattle.std.specs.List.{Contains, filter, flat_map}
use Rattle.std.specs.Option.{IfSome, option_map_or}
use Rattle.std.specs.Map.{lookup}
use Rattle.ix_base.specs.declared.tree.Spot.{Spot}
use Rattle.ix_base.specs.declared.rule.Rule.TheVariants.{L1}
use Rattle.ix_base.specs.Asks.{only, asks, are_many, if_such}
use Rattle.ix_base.specs.Elements.{placed}
use Rattle.ix_base.specs.Ids.{id_of, tuple_id_of, holds_id, holds_tuple_id, holders, agree, one_such, sole}
use Rattle.ix_base.specs.Kinds.{kind_of}
use Rattle.ix_base.specs.LinkRules.{broken_at, found_at, repeats_id}
use Rattle.ix_base.specs.LocatedElements.{Located, located}
use Rattle.ix_base.specs.Rows.{row}
use Rattle.ix_base.specs.Spots.{IsOnOnePage}
use Rattle.ix_base.proofs.OnceLemmas.{Contains-nil, Contains-first, Contains-later, Contains-cases}
use Rattle.text_map.specs.Texts.{Texts}
use Rattle.id_table.specs.declared.entries.Entry.{Entry}
use Rattle.id_table.specs.declared.entries.Sharers.{Sharers}
use Rattle.id_table.specs.Model.{AreChosen, Held, IsApart, IsHolder, IsOfOthers, asked, chosen, chosen_in, doubled_at, one_held, repeats_held}
use Rattle.id_table.specs.Tables.{AreApart, AreChoicesOnPages, AreHolders, AreOnOwnPages, HasEach, HasEntries, all_located, choice_at, choice_of, choices_of, entries_at, entry_for, spots_at}
use Rattle.id_table.proofs.Asking.{map-filter, count-map, one-map}
use Rattle.id_table.proofs.OnPages.{only-All}

-- Choices.

choices-found : (es : Texts (Bor Spot)) (q : List ℕ)
    → chosen_in (map choice_of es) q ≡ option_map (λ s. located s.now) (lookup (bytes_eq q) es)
choices-found [] q = refl
choices-found (e ∷ es) q = by (bytes_eq q e.0) (choices-found es q)
  where
    by : (b : Bool) → chosen_in (map choice_of es) q ≡ option_map (λ s. located s.now) (lookup (bytes_eq q) es)
        → cond b (Some (located e.1.now)) (chosen_in (map choice_of es) q) ≡ option_map (λ s. located s.now) (cond b (Some e.1) (lookup (bytes_eq q) es))
    by true h = refl
    by false h = h

-- what is seen of the choices is what is kept
pub chosen-kept : (m : Texts (Bor Spot)) (q : List ℕ) → chosen_in (choices_of m) q ≡ option_map (λ s. located s.now) (choice_at m q)
chosen-kept m q = choices-found m q

some-of : {X Y : Type 0} (f : X → Y) (o : Option X) (y : Y) → option_map f o ≡ Some y → (x : X) × (o ≡ Some x) × (f x ≡ y)
some-of f None y e = absurd (let z : None ≡ Some y = e in cc)
some-of f (Some x) y e = (x, refl, (let z : Some (f x) ≡ Some y = e in cc))

-- each that is seen is a holder
pub holders-seen : (m : Texts (Bor Spot)) (es : List Located) → AreHolders m es
    → (q : List ℕ) (c : Located) → chosen_in (choices_of m) q ≡ Some c → IsHolder es q c
holders-seen m es h q c e =
    let s = some-of (λ (x : Bor Spot). located x.now) (choice_at m q) c (sym (chosen-kept m q) ∙ e) in
    subst (IsHolder es q) s.2 (h q s.0 s.1)

-- it stays one with more elements
pub holder-more : (es more : List Located) (q : List ℕ) (c : Located) → IsHolder es q c → IsHolder (es ++ more) q c
holder-more es more q c h = record { there = Contains-append_left es more c h.there; holds = h.holds; part = h.part }

pub holders-more : (m : Texts (Bor Spot)) (es more now : List Located) → now ≡ es ++ more → AreHolders m es → AreHolders m now
holders-more m es more now e h q s g = subst (λ l. IsHolder l q (located s.now)) (sym e) (holder-more es more q (located s.now) (h q s g))

is-none : {X : Type 0} (o : Option X) (x : X) → o ≡ None → o ≡ Some x → ⊥
is-none o x a b = let z : None ≡ Some x = sym a ∙ b in cc

-- the choice for an id is set or taken away
pub holders-set : (m n : Texts (Bor Spot)) (es : List Located) (id : List ℕ) (choice : Option (Bor Spot))
    → AreHolders m es → IfSome choice (λ s. IsHolder es id (located s.now))
    → ((q : List ℕ) → choice_at n q ≡ cond (bytes_eq q id) choice (choice_at m q)) → ((q p : List ℕ) → bytes_eq q p ≡ true → p ≡ q) → AreHolders n es
holders-set m n es id choice h c e same q s g = by (bytes_eq q id) refl (sym (e q) ∙ g)
  where
    chosen-by : (o : Option (Bor Spot)) → IfSome o (λ x. IsHolder es id (located x.now)) → o ≡ Some s → IsHolder es id (located s.now)
    chosen-by None k f = absurd (let z : None ≡ Some s = f in cc)
    chosen-by (Some x) k f = let z : x ≡ s = (let y : Some x ≡ Some s = f in cc) in subst (λ (y : Bor Spot). IsHolder es id (located y.now)) z k

    by : (b : Bool) → bytes_eq q id ≡ b → cond b choice (choice_at m q) ≡ Some s → IsHolder es q (located s.now)
    by true b f = subst (λ l. IsHolder es l (located s.now)) (same q id b) (chosen-by choice c f)
    by false b f = h q s f

-- all that stands above the choices stays of their pages
pub pages-set : (m n : Texts (Bor Spot)) (id : List ℕ) (choice : Option (Bor Spot))
    → AreChoicesOnPages m → IfSome choice (λ s. IsOnOnePage s.now)
    → ((q : List ℕ) → choice_at n q ≡ cond (bytes_eq q id) choice (choice_at m q)) → AreChoicesOnPages n
pages-set m n id choice h c e q s g = by (bytes_eq q id) (sym (e q) ∙ g)
  where
    chosen-by : (o : Option (Bor Spot)) → IfSome o (λ x. IsOnOnePage x.now) → o ≡ Some s → IsOnOnePage s.now
    chosen-by None k f = absurd (let z : None ≡ Some s = f in cc)
    chosen-by (Some x) k f = let z : x ≡ s = (let y : Some x ≡ Some s = f in cc) in subst (λ (y : Bor Spot). IsOnOnePage y.now) z k

    by : (b : Bool) → cond b choice (choice_at m q) ≡ Some s → IsOnOnePage s.now
    by true f = chosen-by choice c f
    by false f = h q s f

pub choice-on_page : (m : Texts (Bor Spot)) → AreChoicesOnPages m → (q : List ℕ) (o : Option (Bor Spot)) → o ≡ choice_at m q
    → IfSome o (λ s. IsOnOnePage s.now)
choice-on_page m h q None e = tt
choice-on_page m h q (Some s) e = h q s (sym e)

-- an index without a choice
pub no-pages : (m : Texts (Bor Spot)) → m ≡ [] → AreChoicesOnPages m
no-pages m e q s g = absurd (is-none (lookup (bytes_eq q) m) s (ap (lookup (bytes_eq q)) e) g)

pub no-holders : (m : Texts (Bor Spot)) (es : List Located) → m ≡ [] → AreHolders m es
no-holders m es e q s g = absurd (is-none (lookup (bytes_eq q) m) s (ap (lookup (bytes_eq q)) e) g)

pub no-choices : (m : Texts (Bor Spot)) → m ≡ [] → choices_of m ≡ []
no-choices m e = ap (map choice_of) e

-- what is seen with the choice for an id set or taken away
pub chosen-set : (m n : Texts (Bor Spot)) (id : List ℕ) (choice : Option (Bor Spot))
    → ((q : List ℕ) → choice_at n q ≡ cond (bytes_eq q id) choice (choice_at m q))
    → (q : List ℕ) → chosen_in (choices_of n) q ≡ cond (bytes_eq q id) (option_map (λ s. located s.now) choice) (chosen_in (choices_of m) q)
chosen-set m n id choice e q = chosen-kept n q ∙ ap (option_map (λ (s : Bor Spot). located s.now)) (e q) ∙ by (bytes_eq q id) (sym (chosen-kept m q))
  where
    by : (b : Bool) → option_map (λ s. located s.now) (choice_at m q) ≡ chosen_in (choices_of m) q
        → option_map (λ s. located s.now) (cond b choice (choice_at m q)) ≡ cond b (option_map (λ s. located s.now) choice) (chosen_in (choices_of m) q)
    by true h = refl
    by false h = h

-- Holders.

map-entries : (xs : List (Bor Spot)) → map (λ (e : Entry). located e.spot.now) (map entry_for xs) ≡ map (λ (s : Bor Spot). located s.now) xs
map-entries [] = refl
map-entries (x ∷ xs) = ap (λ l. located x.now ∷ l) (map-entries xs)

only-entries : (xs : List (Bor Spot)) → option_map (λ (e : Entry). located e.spot.now) (only (map entry_for xs)) ≡ option_map (λ (s : Bor Spot). located s.now) (only xs)
only-entries [] = refl
only-entries (x ∷ []) = refl
only-entries (x ∷ y ∷ xs) = refl

module _ (m : Texts Sharers) (spots : List (Bor Spot)) (has : HasEntries m spots) (id : List ℕ) where
  passed : List (Bor Spot)
  passed = filter (λ (s : Bor Spot). holds_id id (located s.now)) spots

  pub held-holders : map (λ (e : Entry). located e.spot.now) (entries_at m id) ≡ holders (all_located spots) id
  unfolding passed
  held-holders = ap (map (λ (e : Entry). located e.spot.now)) (has id) ∙ map-entries passed ∙ map-filter (λ (s : Bor Spot). located s.now) (holds_id id) spots

  pub held-kinds : All (λ (e : Entry). e.kind ≡ kind_of (placed e.spot.now)) (entries_at m id)
  unfolding passed
  held-kinds = subst (All (λ (e : Entry). e.kind ≡ kind_of (placed e.spot.now))) (sym (has id))
      (All-map (λ (e : Entry). e.kind ≡ kind_of (placed e.spot.now)) entry_for passed (λ k d l. refl))

  pub held-pages : AreOnOwnPages spots → All (λ (e : Entry). IsOnOnePage e.spot.now) (entries_at m id)
  unfolding passed
  held-pages h = subst (All (λ (e : Entry). IsOnOnePage e.spot.now)) (sym (has id))
      (All-map (λ (e : Entry). IsOnOnePage e.spot.now) entry_for passed
      (All-filter (λ (s : Bor Spot). holds_id id (located s.now)) (λ (s : Bor Spot). IsOnOnePage s.now) spots h))

  pub held-count : length (entries_at m id) ≡ (asks (all_located spots)).count (holds_id id)
  unfolding passed
  held-count = ap length (has id) ∙ length-map passed entry_for ∙ count-map (λ (s : Bor Spot). located s.now) (holds_id id) spots

  pub held-sole : (o : Option Entry) → o ≡ only (entries_at m id) → option_map (λ (e : Entry). located e.spot.now) o ≡ sole (asks (all_located spots)) id
  unfolding passed
  held-sole o e =
      ap (option_map (λ (e : Entry). located e.spot.now)) (e ∙ ap only (has id)) ∙ only-entries passed
      ∙ one-map (λ (s : Bor Spot). located s.now) (holds_id id) spots

  -- what is given: the choice, or the only one
  pub given-is : (n : Texts (Bor Spot)) (choice : Option (Bor Spot)) (o : Option Entry) → choice ≡ choice_at n id
      → IfSome choice (λ s. o ≡ Some (entry_for s)) → (choice ≡ None → o ≡ only (entries_at m id)) → (spent : Bool)
      → option_map (λ (e : Entry). located e.spot.now) o ≡ one_held (record { spots = all_located spots; choices = choices_of n; is_spent = spent }) id
  given-is n (Some s) o c f g spent =
      ap (option_map (λ (e : Entry). located e.spot.now)) f
      ∙ ap (λ x. option_map_or (λ (e : Located). Some e) x (sole (asks (all_located spots)) id)) (ap (option_map (λ (s : Bor Spot). located s.now)) c ∙ sym (chosen-kept n id))
  given-is n None o c f g spent =
      held-sole o (g refl)
      ∙ ap (λ x. option_map_or (λ (e : Located). Some e) x (sole (asks (all_located spots)) id)) (ap (option_map (λ (s : Bor Spot). located s.now)) c ∙ sym (chosen-kept n id))

-- what is given has its kind
kind-of-only : (xs : List (Bor Spot)) → IfSome (only (map entry_for xs)) (λ e. e.kind ≡ kind_of (placed e.spot.now))
kind-of-only [] = tt
kind-of-only (x ∷ []) = refl
kind-of-only (x ∷ y ∷ xs) = tt

pub given-kind : (m : Texts Sharers) (spots : List (Bor Spot)) → HasEntries m spots → (id : List ℕ)
    → (choice : Option (Bor Spot)) (o : Option Entry) → IfSome choice (λ s. o ≡ Some (entry_for s)) → (choice ≡ None → o ≡ only (entries_at m id))
    → IfSome o (λ e. e.kind ≡ kind_of (placed e.spot.now))
given-kind m spots has id (Some s) o f g = subst (λ x. IfSome x (λ e. e.kind ≡ kind_of (placed e.spot.now))) (sym f) refl
given-kind m spots has id None o f g =
    subst (λ x. IfSome x (λ e. e.kind ≡ kind_of (placed e.spot.now))) (sym (g refl ∙ ap only (has id)))
    (kind-of-only (filter (λ (s : Bor Spot). holds_id id (located s.now)) spots))

-- all that stands above what is given is of its page
pub given-page : (m : Texts Sharers) (spots : List (Bor Spot)) → HasEntries m spots → AreOnOwnPages spots → (id : List ℕ)
    → (choice : Option (Bor Spot)) (o : Option Entry) → IfSome choice (λ s. o ≡ Some (entry_for s)) → (choice ≡ None → o ≡ only (entries_at m id))
    → IfSome choice (λ s. IsOnOnePage s.now) → IfSome o (λ e. IsOnOnePage e.spot.now)
given-page m spots has h id (Some s) o f g c = subst (λ x. IfSome x (λ (e : Entry). IsOnOnePage e.spot.now)) (sym f) c
given-page m spots has h id None o f g c =
    subst (λ x. IfSome x (λ (e : Entry). IsOnOnePage e.spot.now)) (sym (g refl))
    (only-All (λ (e : Entry). IsOnOnePage e.spot.now) (entries_at m id) (held-pages m spots has id h))

-- Whatever was chosen: tests that no context and no unit passes.

Contains-passed : (p : Located → Bool) (es : List Located) (x : Located) → Contains es x → p x ≡ true → Contains (filter p es) x
Contains-passed p [] x c h = absurd (Contains-nil x c)
Contains-passed p (e ∷ es) x c h = elim (Contains-cases e es x c) [
  | inl s ↦ first (p e) (ap p s ∙ h) s
  | inr l ↦ later (p e) (Contains-passed p es x l h)
]
  where
    first : (b : Bool) → b ≡ true → e ≡ x → Contains (cond b (e ∷ filter p es) (filter p es)) x
    first true b s = subst (λ y. Contains (y ∷ filter p es) x) (sym s) (Contains-first x (filter p es))
    first false b s = absurd (let z : false ≡ true = b in cc)

    later : (b : Bool) → Contains (filter p es) x → Contains (cond b (e ∷ filter p es) (filter p es)) x
    later true k = Contains-later e (filter p es) x k
    later false k = k

none-such : (p : Located → Bool) (xs : List Located) (x : Located) → Contains xs x → p x ≡ false → if_such p (only xs) ≡ None
none-such p [] x c h = refl
none-such p (y ∷ []) x c h = elim (Contains-cases y [] x c) [
  | inl s ↦ rw (ap p s ∙ h) refl
  | inr l ↦ absurd (Contains-nil x l)
]
none-such p (y ∷ z ∷ xs) x c h = refl

pub others-same : (es : List Located) (id : List ℕ) (c : Option Located) → ((x : Located) → c ≡ Some x → IsHolder es id x)
    → (p : Located → Bool) → IsOfOthers p → if_such p (option_map_or (λ (e : Located). Some e) c (sole (asks es) id)) ≡ one_such p (asks es) id
others-same es id None h p o = refl
others-same es id (Some x) h p o =
    let i = h x refl in
    let fails : p x ≡ false = o x i.part in
    let here : if_such p (Some x) ≡ None = rw fails refl in
    here ∙ sym (none-such p (filter (holds_id id) es) x (Contains-passed (holds_id id) es x i.there i.holds) fails)

-- Doubled ids.

row-same : (many agreed : Bool) {X : Type 0} (o : Option X) → is_some o ≡ (many && agreed) → (many && is_none o) ≡ (many && not agreed)
row-same false agreed o e = refl
row-same true true None e = absurd (let z : false ≡ true = e in cc)
row-same true true (Some x) e = refl
row-same true false None e = refl
row-same true false (Some x) e = absurd (let z : true ≡ false = e in cc)

own-same : (h : Held) → AreChosen h → (o : Option (List ℕ))
    → option_map_or (λ id. are_many (asked h) (holds_id id) && is_none (chosen h id)) o false ≡ option_map_or (λ id. are_many (asked h) (holds_id id) && not (agree (asked h) id)) o false
own-same h a None = refl
own-same h a (Some id) = row-same (are_many (asked h) (holds_id id)) (agree (asked h) id) (chosen h id) (a id)

repeats-same : (h : Held) → AreChosen h → (e : Located) → repeats_held h e ≡ repeats_id (asked h) e
repeats-same h a e = ap (λ b. b || option_map_or (λ id. are_many (asked h) (holds_tuple_id id)) (tuple_id_of e) false) (own-same h a (id_of e))

-- where the choices are those that the elements ask for, these are the breaches
pub doubled-same : (h : Held) → AreChosen h → (es : List Located) → flat_map (doubled_at h) es ≡ flat_map (broken_at (asked h) L1) es
doubled-same h a [] = refl
doubled-same h a (e ∷ es) = λ i. row (repeats-same h a e i) (found_at e L1) ++ doubled-same h a es i

-- Ids that no two elements share.

pub held-apart : (ids : Texts Sharers) (tuples : Texts (Vec (Bor Spot) Global)) (spots : List (Bor Spot)) → HasEntries ids spots
    → HasEach tuple_id_of tuples spots → AreApart ids tuples → (h : Held) → all_located spots ≡ h.spots → IsApart h
held-apart ids tuples spots has each apart h e = record {
  ids = λ id.
      ap (λ (es : List Located). nat_lt 1 ((asks es).count (holds_id id))) (sym e) ∙ ap (nat_lt 1) (sym (held-count ids spots has id))
      ∙ le-ltb 1 (length (entries_at ids id)) (apart.by_id id);
  tuple_ids = λ id.
      ap (λ (es : List Located). nat_lt 1 ((asks es).count (holds_tuple_id id))) (sym e)
      ∙ ap (nat_lt 1) (sym (ap length (each id) ∙ count-map (λ (s : Bor Spot). located s.now) (holds_tuple_id id) spots))
      ∙ le-ltb 1 (length (spots_at tuples id)) (apart.by_tuple_id id);
}

pub held-met : (ids : Texts Sharers) (tuples : Texts (Vec (Bor Spot) Global)) (spots : List (Bor Spot)) → HasEntries ids spots
    → HasEach tuple_id_of tuples spots → ¬ AreApart ids tuples → (h : Held) → all_located spots ≡ h.spots → ¬ IsApart h
held-met ids tuples spots has each met h e apart = met (record {
  by_id = λ id. ltb-false 1 (length (entries_at ids id))
      (ap (nat_lt 1) (held-count ids spots has id) ∙ ap (λ (es : List Located). nat_lt 1 ((asks es).count (holds_id id))) e ∙ apart.ids id);
  by_tuple_id = λ id. ltb-false 1 (length (spots_at tuples id))
      (ap (nat_lt 1) (ap length (each id) ∙ count-map (λ (s : Bor Spot). located s.now) (holds_tuple_id id) spots)
      ∙ ap (λ (es : List Located). nat_lt 1 ((asks es).count (holds_tuple_id id))) e ∙ apart.tuple_ids id);
})

pub none-doubled : (h : Held) → IsApart h → (es : List Located) → flat_map (doubled_at h) es ≡ []
none-doubled h apart [] = refl
none-doubled h apart (e ∷ es) =
    ap (λ b. row b (found_at e L1) ++ flat_map (doubled_at h) es) (never (id_of e) (tuple_id_of e)) ∙ none-doubled h apart es
  where
    never : (i t : Option (List ℕ)) → (option_map_or (λ id. are_many (asked h) (holds_id id) && is_none (chosen h id)) i false
        || option_map_or (λ id. are_many (asked h) (holds_tuple_id id)) t false) ≡ false
    never None None = refl
    never None (Some t) = apart.tuple_ids t
    never (Some i) None = ap (λ b. (b && is_none (chosen h i)) || false) (apart.ids i)
    never (Some i) (Some t) = ap (λ b. (b && is_none (chosen h i)) || are_many (asked h) (holds_tuple_id t)) (apart.ids i) ∙ apart.tuple_ids t
