-- Spots and the elements that they are, one by one.
use Rattle.std.proofs.Common.{◌≡◌, ◌∙◌, ◌+◌, ◌<◌, ◌++◌, ℕ, Bool, true, false, List, [], ◌∷◌, Option, None, Some, option_map, cond, not, ap, append-nil, append_assoc, get_or, map, length, take, sym, subst, refl}
use Rattle.std.specs.List.{All, Contains, filter, filter_map, flat_map}
use Rattle.std.proofs.lemmas.Grind.{flat_map-append}
use Rattle.std.proofs.lemmas.List.Concat.{flat_map-cons}
use Rattle.std.specs.Option.{option_map_or}
use Rattle.std.specs.Ordering.{on}
use Rattle.std.specs.Prelude.{◌&&◌, is_some}
use Rattle.std.proofs.lemmas.List.{map-append, take_more}
use Rattle.std.proofs.lemmas.List.Elements.{All-nil, All-cons, All-get_or, All-head, All-tail, All-contains, All-contains_itself, All-weaker, filter_map-append}
use Rattle.std.specs.Borrow.{Bor}
use Rattle.std.specs.declared.cmp.Ordering.{Ordering}
use Rattle.std.specs.declared.cmp.Ordering.TheVariants.{Less, Equal, Greater}
use Rattle.ix_base.specs.declared.tree.Spot.{Spot}
use Rattle.ix_base.specs.Asks.{asks}
use Rattle.ix_base.specs.LocatedElements.{Located, is_fact, located, same_place}
use Rattle.ix_base.specs.Membership.{is_owned_by, members, order_of, owner}
use Rattle.ix_base.specs.Orders.{order_cmp}
use Rattle.ix_base.specs.SortedLists.{put, put_by, sorted}
use Rattle.ix_base.proofs.OnceLemmas.{Contains-from_filter}
use Rattle.id_table.specs.Model.{AreUnowned}
use Rattle.id_table.specs.Tables.{all_located}
use Rattle.tuples.specs.Model.{AreMembersOf, Kept, owner_in}
use Rattle.target_contents.specs.Visits.{AreAmong}

pub &&-left : (a b : Bool) → (a && b) ≡ true → a ≡ true
&&-left true b h = refl
&&-left false b h = h

pub &&-right : (a b : Bool) → (a && b) ≡ true → b ≡ true
&&-right true b h = h
&&-right false b h = absurd (cc)

-- what is true of each element is true of each spot
pub all-spots : (P : Located → Type 0) (spots : List (Bor Spot)) → All P (all_located spots) → All (λ s. P (located s.now)) spots
all-spots P [] h = All-nil (λ (s : Bor Spot). P (located s.now))
all-spots P (s ∷ spots) h =
    All-cons (λ (x : Bor Spot). P (located x.now)) s spots (All-head P (located s.now) (all_located spots) h)
    (all-spots P spots (All-tail P (located s.now) (all_located spots) h))

pub spots-are : (P : Located → Type 0) (spots : List (Bor Spot)) (es : List Located) → all_located spots ≡ es → All P es → All (λ s. P (located s.now)) spots
spots-are P spots es e h = all-spots P spots (subst (All P) (sym e) h)

pub among-all : (spots : List (Bor Spot)) (es : List Located) → all_located spots ≡ es → AreAmong es spots
among-all spots es e = spots-are (Contains es) spots es e (All-contains_itself es)

-- what is true of each stays so of each in order
put-by : {X : Type 0} (P : X → Type 0) (R : X → X → Ordering) (o : Ordering) (x y : X) (ys : List X) → P x → All P (y ∷ ys)
    → All P (put R x ys) → All P (put_by o x y ys (put R x ys))
put-by P R Less x y ys p h behind = All-cons P x (y ∷ ys) p h
put-by P R Equal x y ys p h behind = All-cons P x (y ∷ ys) p h
put-by P R Greater x y ys p h behind = All-cons P y (put R x ys) (All-head P y ys h) behind

all-put : {X : Type 0} (P : X → Type 0) (R : X → X → Ordering) (x : X) (ys : List X) → P x → All P ys → All P (put R x ys)
all-put P R x [] p h = All-cons P x [] p h
all-put P R x (y ∷ ys) p h = put-by P R (R x y) x y ys p h (all-put P R x ys p (All-tail P y ys h))

pub all-sorted : {X : Type 0} (P : X → Type 0) (R : X → X → Ordering) (xs : List X) → All P xs → All P (sorted R xs)
unfolding sorted
all-sorted P R [] h = All-nil P
all-sorted P R (x ∷ xs) h = all-put P R x (sorted R xs) (All-head P x xs h) (all-sorted P R xs (All-tail P x xs h))

-- the members of a tuple are among the elements, and facts
pub members-among : (es : List Located) (t : Located) → All (λ e. Contains es e × (is_fact e ≡ true)) (members es t)
members-among es t =
    all-sorted (λ (e : Located). Contains es e × (is_fact e ≡ true)) (on order_of order_cmp) (filter (is_owned_by (asks es) t) es)
    (All-weaker (Contains (filter (is_owned_by (asks es) t) es)) (λ (e : Located). Contains es e × (is_fact e ≡ true))
    (λ e h. let kept = Contains-from_filter (is_owned_by (asks es) t) es e h in
    (kept.0, &&-left (is_fact e) (option_map_or (same_place t) (owner (asks es) e) false) kept.1))
    (filter (is_owned_by (asks es) t) es) (All-contains_itself (filter (is_owned_by (asks es) t) es)))

-- one of some spots
pub spot-at : (P : Bor Spot → Type 0) (spots : List (Bor Spot)) (i : ℕ) (s : Bor Spot) → All P spots → i < length spots → s ≡ get_or spots i s → P s
spot-at P spots i s h lt is = subst P (sym is) (All-get_or P spots i s lt h)

-- one more of some things
pub map-more : {X Y : Type 0} (f : X → Y) (xs : List X) (i : ℕ) (x : X) → i < length xs → x ≡ get_or xs i x
    → map f (take (i + 1) xs) ≡ map f (take i xs) ++ f x ∷ []
map-more f xs i x lt is =
    ap (map f) (take_more xs i x lt ∙ ap (λ y. take i xs ++ y ∷ []) (sym is)) ∙ map-append f (take i xs) (x ∷ [])

pub located-more : (spots : List (Bor Spot)) (i : ℕ) (s : Bor Spot) → i < length spots → s ≡ get_or spots i s
    → all_located (take (i + 1) spots) ≡ all_located (take i spots) ++ located s.now ∷ []
located-more spots i s lt is = map-more (λ (x : Bor Spot). located x.now) spots i s lt is

-- and what a look-up gives of it
pub looked-more : {X Y : Type 0} (h : X → Option Y) (old new here : List X) (found more : List Y) → new ≡ old ++ here → found ≡ filter_map h old
    → more ≡ found ++ filter_map h here → more ≡ filter_map h new
looked-more h old new here found more n f m =
    m ∙ ap (λ ys. ys ++ filter_map h here) f ∙ sym (filter_map-append h old here) ∙ ap (filter_map h) (sym n)

-- one more, unless it has something
pub outer-more : (xs new : List (Bor Spot)) (s : Bor Spot) (b : Bool) → new ≡ xs ++ s ∷ [] → b ≡ false
    → all_located new ≡ all_located xs ++ cond (not b) (located s.now ∷ []) []
outer-more xs new s true n e = absurd (cc)
outer-more xs new s false n e = ap all_located n ∙ map-append (λ (x : Bor Spot). located x.now) xs (s ∷ [])

pub outer-same : (xs : List (Bor Spot)) (s : Bor Spot) (b : Bool) → b ≡ true → all_located xs ≡ all_located xs ++ cond (not b) (located s.now ∷ []) []
outer-same xs s true e = sym (append-nil (all_located xs))
outer-same xs s false e = absurd (cc)

-- where no tuple owns any of the set, each has no owner
pub all-outer : (k : Kept) (es : List Located) (spots : List (Bor Spot)) → AreMembersOf k es → AreUnowned es → AreAmong es spots
    → all_located spots ≡ filter (λ e. not (is_some (owner_in k e))) (all_located spots)
all-outer k es [] are unowned among = refl
all-outer k es (s ∷ spots) are unowned among =
    let e = located s.now in
    let rest = filter (λ x. not (is_some (owner_in k x))) (all_located spots) in
    let none = are.owners e ∙ All-contains (λ x. owner (asks es) x ≡ None) es e unowned (All-head (λ (x : Bor Spot). Contains es (located x.now)) s spots among) in
    ap (λ xs. e ∷ xs) (all-outer k es spots are unowned (All-tail (λ (x : Bor Spot). Contains es (located x.now)) s spots among))
    ∙ sym (ap (λ (o : Option Located). cond (not (is_some o)) (e ∷ rest) rest) none)

pub some-same : {X Y Z : Type 0} (f : X → Z) (g : Y → Z) (a : Option X) (b : Option Y) → option_map f a ≡ option_map g b → is_some a ≡ is_some b
some-same f g None None e = refl
some-same f g None (Some y) e = absurd (cc)
some-same f g (Some x) None e = absurd (cc)
some-same f g (Some x) (Some y) e = refl

pub not-is : (a b : Bool) → a ≡ not b → b ≡ true → a ≡ false
not-is a true e h = e
not-is a false e h = absurd (cc)

pub not-isnt : (a b : Bool) → a ≡ not b → b ≡ false → a ≡ true
not-isnt a true e h = absurd (cc)
not-isnt a false e h = e

pub un-not : (a b : Bool) → a ≡ not b → a ≡ false → b ≡ true
un-not a true e h = refl
un-not a false e h = absurd (cc)

pub map-more-at : {X Y : Type 0} (f : X → Y) (xs : List X) (i : ℕ) (d : X) → i < length xs → map f (take (i + 1) xs) ≡ map f (take i xs) ++ f (get_or xs i d) ∷ []
map-more-at f xs i d lt = ap (map f) (take_more xs i d lt) ∙ map-append f (take i xs) (get_or xs i d ∷ [])

-- and what it adds
pub flat-more : {X Y : Type 0} (f : X → List Y) (first found new : List Y) (before : List X) (x : X) (after : List X) → after ≡ before ++ x ∷ []
    → found ≡ first ++ flat_map f before → new ≡ found ++ f x → new ≡ first ++ flat_map f after
flat-more f first found new before x after a o n =
    n ∙ ap (λ ys. ys ++ f x) o ∙ append_assoc first (flat_map f before) (f x)
    ∙ ap (λ ys. first ++ ys)
    (ap (λ ys. flat_map f before ++ ys) (sym (append-nil (f x)))
    ∙ sym (ap (λ ys. flat_map f before ++ ys) (flat_map-cons f x []))
    ∙ sym (flat_map-append f before (x ∷ [])) ∙ ap (flat_map f) (sym a))
