-- Pages with other numbers: every definition of links says the same.
use Rattle.std.proofs.Common.{◌≡◌, ◌∙◌, ◌++◌, ℕ, zero, suc, Bool, true, false, cond, List, [], ◌∷◌, length, map, refl, ap, sym, Option, Some, None, option_map}
use Rattle.std.proofs.lemmas.List.{length-map}
use Rattle.std.specs.Prelude.{◌&&◌, ◌||◌, ◌==◌, not, nat_lt, is_none, is_some, option_and_then, codes}
use Rattle.std.specs.List.{list_any, filter, cons_option}
use Rattle.std.specs.Option.{option_map_or}
use Rattle.ix_base.specs.declared.kind.Kind.{Kind}
use Rattle.ix_base.specs.declared.kind.Kind.TheVariants as kind
use Rattle.ix_base.specs.declared.rule.Rule.{Rule}
use Rattle.ix_base.specs.declared.rule.Rule.TheVariants as rule
use Rattle.ix_base.specs.Alike.{alike}
use Rattle.ix_base.specs.Asks.{asks, are_many, first_of, if_such}
use Rattle.ix_base.specs.Chain.{continued_at, next, chain_of, chain}
use Rattle.ix_base.specs.Elements.{placed_at}
use Rattle.ix_base.specs.Ids.{id_of, tuple_id_of, holds_id, holds_tuple_id, holders, agree, are_doubled, differs, foremost, foremost_of, one, one_such, one_tuple, place_cmp, speaker, stands_for}
use Rattle.ix_base.specs.LinkRules.{lacks, stands_inside, inner_along, is_at, is_reached_from, is_inside_chain_of, misses, goes_on_at, same_target, target_of, are_siblings, same_order, ties, named_by, are_any, from_ids, to_ids, is_end, is_footnote, is_relationship, is_schema_for, breaks_link}
use Rattle.ix_base.specs.LocatedElements.{Located, on_page, is_continuation, is_start, is_tuple, is_fact, is_item, is_kind, is_nil, same_place, offset_of, token_at}
use Rattle.ix_base.specs.Membership.{owner, owner_by, owners, nearest_tuple, tuple_ref_of, order_of, deepest, is_owned_by, members, within, fact, fact_by, fact_name}
use Rattle.ix_base.specs.Facts.{Facts, item, tuple, joined}
use Rattle.ix_base.specs.Orders.{order_cmp}
use Rattle.ix_base.specs.SortedLists.{sorted, text_cmp}
use Rattle.ix_base.specs.declared.content.Item.{Item}
use Rattle.std.specs.Ordering.{is_lt, nat_cmp, on, then_cmp}
use Rattle.ix_base.specs.Trees.{Tree}
use Rattle.ix_base.proofs.StableLemmas.{sorted-map}
use Rattle.id_table.specs.Renumbering.{moved}
use Rattle.id_table.proofs.Asking.{map-filter, one-map, count-map}

any-same : {X : Type 0} (p q : X → Bool) → ((x : X) → p x ≡ q x) → (xs : List X) → list_any p xs ≡ list_any q xs
any-same p q h [] = refl
any-same p q h (x ∷ xs) = λ i. h x i || any-same p q h xs i

pub any-map : {X Y : Type 0} (p : Y → Bool) (f : X → Y) (xs : List X) → list_any p (map f xs) ≡ list_any (λ x. p (f x)) xs
any-map p f [] = refl
any-map p f (x ∷ xs) = ap (λ b. p (f x) || b) (any-map p f xs)

pub filter-same : {X : Type 0} (p q : X → Bool) → ((x : X) → p x ≡ q x) → (xs : List X) → filter p xs ≡ filter q xs
filter-same p q h [] = refl
filter-same p q h (x ∷ xs) = λ i. cond (h x i) (x ∷ filter-same p q h xs i) (filter-same p q h xs i)

map_or-map : {X Y Z : Type 0} (g : Y → Z) (f : X → Y) (o : Option X) (d : Z) → option_map_or g (option_map f o) d ≡ option_map_or (λ x. g (f x)) o d
map_or-map g f None d = refl
map_or-map g f (Some x) d = refl

map_or-same : {X Z : Type 0} (g h : X → Z) → ((x : X) → g x ≡ h x) → (o : Option X) (d : Z) → option_map_or g o d ≡ option_map_or h o d
map_or-same g h e None d = refl
map_or-same g h e (Some x) d = e x

none-map : {X Y : Type 0} (f : X → Y) (o : Option X) → is_none (option_map f o) ≡ is_none o
none-map f None = refl
none-map f (Some x) = refl

some-map : {X Y : Type 0} (f : X → Y) (o : Option X) → is_some (option_map f o) ≡ is_some o
some-map f None = refl
some-map f (Some x) = refl

if-map : {X Y : Type 0} (f : X → Y) (b : Bool) (x : X) → cond b (Some (f x)) None ≡ option_map f (cond b (Some x) None)
if-map f true x = refl
if-map f false x = refl

pub map-same : {X Y : Type 0} (f g : X → Y) → ((x : X) → f x ≡ g x) → (xs : List X) → map f xs ≡ map g xs
map-same f g h [] = refl
map-same f g h (x ∷ xs) = λ i. h x i ∷ map-same f g h xs i

pub map-twice : {X Y Z : Type 0} (g : Y → Z) (f : X → Y) (xs : List X) → map g (map f xs) ≡ map (λ x. g (f x)) xs
map-twice g f [] = refl
map-twice g f (x ∷ xs) = ap (λ l. g (f x) ∷ l) (map-twice g f xs)

module _ (r : ℕ → ℕ) (apart : (x y : ℕ) → (r x == r y) ≡ (x == y)) where
  such-moved : (p : Located → Bool) → ((e : Located) → p (moved r e) ≡ p e) → (o : Option Located) → if_such p (option_map (moved r) o) ≡ option_map (moved r) (if_such p o)
  such-moved p h None = refl
  such-moved p h (Some e) = ap (λ b. cond b (Some (moved r e)) None) (h e) ∙ if-map (moved r) (p e) e

  one-moved : (es : List Located) (p : Located → Bool) → (asks (map (moved r) es)).one p ≡ option_map (moved r) ((asks es).one (λ e. p (moved r e)))
  one-moved es p = sym (one-map (moved r) p es)

  count-moved : (es : List Located) (p q : Located → Bool) → ((e : Located) → p (moved r e) ≡ q e) → (asks (map (moved r) es)).count p ≡ (asks es).count q
  count-moved es p q h = sym (count-map (moved r) p es) ∙ ap length (filter-same (λ e. p (moved r e)) q h es)

  pub such-one : (es : List Located) (p : Located → Bool) → ((e : Located) → p (moved r e) ≡ p e) → (id : List ℕ) → one_such p (asks (map (moved r) es)) id ≡ option_map (moved r) (one_such p (asks es) id)
  such-one es p h id = ap (if_such p) (one-moved es (holds_id id)) ∙ such-moved p h ((asks es).one (holds_id id))

  misses-moved : (es : List Located) (p : Located → Bool) → ((e : Located) → p (moved r e) ≡ p e) → (o : Option (List ℕ)) → misses p (asks (map (moved r) es)) o ≡ misses p (asks es) o
  misses-moved es p h o = map_or-same _ _ (λ id. ap is_none (such-one es p h id) ∙ none-map (moved r) (one_such p (asks es) id)) o false

  -- which elements are alike doesn't depend on their pages
  alike-moved : (x y : Located) → alike (moved r x) (moved r y) ≡ alike x y
  unfolding alike
  alike-moved x y = refl

  many-moved : (es : List Located) (id : List ℕ) → are_many (asks (map (moved r) es)) (holds_id id) ≡ are_many (asks es) (holds_id id)
  many-moved es id = ap (nat_lt 1) (count-moved es (holds_id id) (holds_id id) (λ x. refl))

  differs-moved : (es : List Located) (id : List ℕ) (x : Located) → differs (asks (map (moved r) es)) id (moved r x) ≡ differs (asks es) id x
  differs-moved es id x = ap (λ n. holds_id id x && nat_lt 0 n)
      (count-moved es (λ y. holds_id id y && not (alike (moved r x) y)) (λ y. holds_id id y && not (alike x y)) (λ y. ap (λ b. holds_id id y && not b) (alike-moved x y)))

  agree-moved : (es : List Located) (id : List ℕ) → agree (asks (map (moved r) es)) id ≡ agree (asks es) id
  agree-moved es id = ap (λ n. not (nat_lt 0 n)) (count-moved es (differs (asks (map (moved r) es)) id) (differs (asks es) id) (differs-moved es id))

  pub doubled-moved : (es : List Located) (id : List ℕ) → are_doubled (asks (map (moved r) es)) id ≡ are_doubled (asks es) id
  doubled-moved es id = λ i. many-moved es id i && not (agree-moved es id i)

  stands-moved : (es : List Located) (k : Kind) (id : List ℕ) → stands_for k (asks (map (moved r) es)) id ≡ stands_for k (asks es) id
  stands-moved es k id = λ i. nat_lt 0 (count-moved es (λ x. holds_id id x && is_kind k x) (λ x. holds_id id x && is_kind k x) (λ x. refl) i) && not (doubled-moved es id i)

  lacks-moved : (es : List Located) (k : Kind) (o : Option (List ℕ)) → lacks k (asks (map (moved r) es)) o ≡ lacks k (asks es) o
  lacks-moved es k o = map_or-same _ _ (λ id. ap not (stands-moved es k id)) o false

  -- the one that speaks for an id
  pub speaker-moved : (es : List Located) (id : List ℕ) → speaker (map (moved r) es) id ≡ option_map (moved r) (speaker es id)
  speaker-moved es id =
      (λ i. cond (doubled-moved es id i) None (first_of (holders-moved i))) ∙ by (are_doubled (asks es) id) (holders es id)
    where
      holders-moved : holders (map (moved r) es) id ≡ map (moved r) (holders es id)
      holders-moved = sym (map-filter (moved r) (holds_id id) es)

      by : (b : Bool) (xs : List Located) → cond b None (first_of (map (moved r) xs)) ≡ option_map (moved r) (cond b None (first_of xs))
      by true xs = refl
      by false [] = refl
      by false (x ∷ xs) = refl

  -- and the one with an id, where the pages have their names under the new numbers
  module _ (names others : ℕ → List ℕ) (named : (n : ℕ) → others (r n) ≡ names n) where
    before-moved : (y x : Located) → place_cmp others (moved r y) (moved r x) ≡ place_cmp names y x
    before-moved y x = λ i. then_cmp (λ (a b : Located). text_cmp (named y.page i) (named x.page i)) (on offset_of nat_cmp) y x

    first-by : (b c : Bool) (x y : Located) → b ≡ c → cond b (moved r y) (moved r x) ≡ moved r (cond c y x)
    first-by true true x y e = refl
    first-by true false x y e = absurd (let z : true ≡ false = e in cc)
    first-by false true x y e = absurd (let z : false ≡ true = e in cc)
    first-by false false x y e = refl

    foremost-moved : (x : Located) (xs : List Located) → foremost others (moved r x) (map (moved r) xs) ≡ moved r (foremost names x xs)
    foremost-moved x [] = refl
    foremost-moved x (y ∷ ys) =
        ap (λ z. foremost others z (map (moved r) ys)) (first-by _ _ x y (ap is_lt (before-moved y x)))
        ∙ foremost-moved (cond (is_lt (place_cmp names y x)) y x) ys

    pub one-named-moved : (es : List Located) (id : List ℕ) → one others (map (moved r) es) id ≡ option_map (moved r) (one names es id)
    one-named-moved es id =
        (λ i. cond (doubled-moved es id i) None (foremost_of others (sym (map-filter (moved r) (holds_id id) es) i))) ∙ by (are_doubled (asks es) id) (holders es id)
        (λ x xs. foremost-moved x xs)
      where
        by : (b : Bool) (hs : List Located) → ((x : Located) (xs : List Located) → foremost others (moved r x) (map (moved r) xs) ≡ moved r (foremost names x xs))
            → cond b None (foremost_of others (map (moved r) hs)) ≡ option_map (moved r) (cond b None (foremost_of names hs))
        by true hs h = refl
        by false [] h = refl
        by false (x ∷ xs) h = ap Some (h x xs)

  next-by : (es : List Located) (o : Option (List ℕ)) → option_and_then (one_such is_continuation (asks (map (moved r) es))) o ≡ option_map (moved r) (option_and_then (one_such is_continuation (asks es)) o)
  next-by es None = refl
  next-by es (Some id) = such-one es is_continuation (λ x. refl) id

  chain_by : (es : List Located) (n : ℕ) (o : Option Located) → ((x : Located) → chain_of (asks (map (moved r) es)) n (moved r x) ≡ map (moved r) (chain_of (asks es) n x))
      → option_map_or (chain_of (asks (map (moved r) es)) n) (option_map (moved r) o) [] ≡ map (moved r) (option_map_or (chain_of (asks es) n) o [])
  chain_by es n None h = refl
  chain_by es n (Some x) h = h x

  chain_of-moved : (es : List Located) (n : ℕ) (e : Located) → chain_of (asks (map (moved r) es)) n (moved r e) ≡ map (moved r) (chain_of (asks es) n e)
  chain_of-moved es zero e = refl
  chain_of-moved es (suc n) e = ap (λ l. moved r e ∷ l)
      (ap (λ o. option_map_or (chain_of (asks (map (moved r) es)) n) o []) (next-by es (continued_at e)) ∙ chain_by es n (next (asks es) e) (λ x. chain_of-moved es n x))

  pub chain-moved : (es : List Located) (e : Located) → chain (asks (map (moved r) es)) (moved r e) ≡ map (moved r) (chain (asks es) e)
  chain-moved es e = ap (λ n. chain_of (asks (map (moved r) es)) (suc n) (moved r e)) (count-moved es is_continuation is_continuation (λ x. refl)) ∙ chain_of-moved es (suc ((asks es).count is_continuation)) e

  at-moved : (page offset : ℕ) (es : List Located) → list_any (is_at (r page) offset) (map (moved r) es) ≡ list_any (is_at page offset) es
  at-moved page offset [] = refl
  at-moved page offset (x ∷ es) = λ i. (apart page x.page i && (offset == offset_of x)) || at-moved page offset es i

  reached-moved : (es : List Located) (e s : Located) → is_reached_from (asks (map (moved r) es)) (moved r e) (moved r s) ≡ is_reached_from (asks es) e s
  reached-moved es e s = ap (λ b. is_start s && b) (ap (list_any (is_at (r e.page) (offset_of e))) (chain-moved es s) ∙ at-moved e.page (offset_of e) (chain (asks es) s))

  inner-moved : (xs : List Located) → inner_along (map (moved r) xs) ≡ map (moved r) (inner_along xs)
  inner-moved xs =
      sym (map-filter (moved r) (stands_inside (map (moved r) xs)) xs)
      ∙ ap (map (moved r)) (filter-same (λ x. stands_inside (map (moved r) xs) (moved r x)) (stands_inside xs)
      (λ x. any-same (λ t. list_any (is_at (r x.page) t.head.offset) (map (moved r) xs)) (λ t. list_any (is_at x.page t.head.offset) xs) (λ t. at-moved x.page t.head.offset xs) x.placed.above) xs)

  inside-moved : (es : List Located) (e s : Located) → is_inside_chain_of (asks (map (moved r) es)) (moved r e) (moved r s) ≡ is_inside_chain_of (asks es) e s
  inside-moved es e s = ap (λ b. is_start s && b)
      (ap (list_any (is_at (r e.page) (offset_of e))) (ap inner_along (chain-moved es s) ∙ inner-moved (chain (asks es) s)) ∙ at-moved e.page (offset_of e) (inner_along (chain (asks es) s)))

  nearest-by : (b : Bool) (page : ℕ) (t : Tree) (above : List Tree) → nearest_tuple (r page) above ≡ option_map (moved r) (nearest_tuple page above)
      → cond b (Some (on_page (r page) (placed_at t above))) (nearest_tuple (r page) above) ≡ option_map (moved r) (cond b (Some (on_page page (placed_at t above))) (nearest_tuple page above))
  nearest-by true page t above h = refl
  nearest-by false page t above h = h

  nearest-moved : (page : ℕ) (above : List Tree) → nearest_tuple (r page) above ≡ option_map (moved r) (nearest_tuple page above)
  nearest-moved page [] = refl
  nearest-moved page (t ∷ above) = nearest-by (is_tuple (on_page page (placed_at t above))) page t above (nearest-moved page above)

  owner-by : (es : List Located) (e : Located) (o : Option (List ℕ)) → owner_by (asks (map (moved r) es)) (moved r e) o ≡ option_map (moved r) (owner_by (asks es) e o)
  owner-by es e None = nearest-moved e.page e.placed.above
  owner-by es e (Some id) = one-moved es (holds_tuple_id id)

  pub owner-moved : (es : List Located) (e : Located) → owner (asks (map (moved r) es)) (moved r e) ≡ option_map (moved r) (owner (asks es) e)
  owner-moved es e = owner-by es e (tuple_ref_of e)

  owners-by : (es : List Located) (n : ℕ) (o : Option Located) → ((x : Located) → owners (asks (map (moved r) es)) n (moved r x) ≡ map (moved r) (owners (asks es) n x))
      → option_map_or (λ x. x ∷ owners (asks (map (moved r) es)) n x) (option_map (moved r) o) [] ≡ map (moved r) (option_map_or (λ x. x ∷ owners (asks es) n x) o [])
  owners-by es n None h = refl
  owners-by es n (Some x) h = ap (λ l. moved r x ∷ l) (h x)

  owners-moved : (es : List Located) (n : ℕ) (e : Located) → owners (asks (map (moved r) es)) n (moved r e) ≡ map (moved r) (owners (asks es) n e)
  owners-moved es zero e = refl
  owners-moved es (suc n) e = ap (λ o. option_map_or (λ x. x ∷ owners (asks (map (moved r) es)) n x) o []) (owner-moved es e) ∙ owners-by es n (owner (asks es) e) (λ x. owners-moved es n x)

  -- what is asked of an owner without its page
  of_owner : (es : List Located) (e : Located) (g : Located → Bool) → ((x : Located) → g (moved r x) ≡ g x) → option_map_or g (owner (asks (map (moved r) es)) (moved r e)) false ≡ option_map_or g (owner (asks es) e) false
  of_owner es e g h = ap (λ o. option_map_or g o false) (owner-moved es e) ∙ map_or-map g (moved r) (owner (asks es) e) false ∙ map_or-same (λ x. g (moved r x)) g h (owner (asks es) e) false

  siblings-moved : (es : List Located) (e f : Located) → are_siblings (asks (map (moved r) es)) (moved r e) (moved r f) ≡ are_siblings (asks es) e f
  siblings-moved es e f =
      ap (λ o. option_map_or (λ x. option_map_or (same_place x) (owner (asks (map (moved r) es)) (moved r f)) false) o false) (owner-moved es e)
      ∙ map_or-map (λ x. option_map_or (same_place x) (owner (asks (map (moved r) es)) (moved r f)) false) (moved r) (owner (asks es) e) false
      ∙ map_or-same _ (λ x. option_map_or (same_place x) (owner (asks es) f) false)
      (λ x. ap (λ o. option_map_or (same_place (moved r x)) o false) (owner-moved es f) ∙ map_or-map (same_place (moved r x)) (moved r) (owner (asks es) f) false
      ∙ map_or-same (λ y. same_place (moved r x) (moved r y)) (same_place x) (λ y. ap (λ b. b && (offset_of x == offset_of y)) (apart x.page y.page)) (owner (asks es) f) false)
      (owner (asks es) e) false

  cons-moved : (o : Option Located) (xs : List Located) → cons_option (option_map (moved r) o) (map (moved r) xs) ≡ map (moved r) (cons_option o xs)
  cons-moved None xs = refl
  cons-moved (Some x) xs = refl

  pub named-moved : (es : List Located) (p : Located → Bool) → ((e : Located) → p (moved r e) ≡ p e) → (ids : List (List ℕ)) → named_by p (asks (map (moved r) es)) ids ≡ map (moved r) (named_by p (asks es) ids)
  named-moved es p h [] = refl
  named-moved es p h (id ∷ ids) = (λ i. cons_option (such-one es p h id i) (named-moved es p h ids i)) ∙ cons-moved (one_such p (asks es) id) (named_by p (asks es) ids)

  any-named : (es : List Located) (p : Located → Bool) → ((e : Located) → p (moved r e) ≡ p e) → (ids : List (List ℕ)) → are_any (named_by p (asks (map (moved r) es)) ids) ≡ are_any (named_by p (asks es) ids)
  any-named es p h ids = ap are_any (named-moved es p h ids) ∙ ap (nat_lt 0) (length-map (named_by p (asks es) ids) (moved r))

  lacks-one : (es : List Located) (p : Located → Bool) → ((e : Located) → p (moved r e) ≡ p e) → (ids : List (List ℕ))
      → list_any (λ id. is_none (one_such p (asks (map (moved r) es)) id)) ids ≡ list_any (λ id. is_none (one_such p (asks es) id)) ids
  lacks-one es p h ids = any-same _ (λ id. is_none (one_such p (asks es) id)) (λ id. ap is_none (such-one es p h id) ∙ none-map (moved r) (one_such p (asks es) id)) ids

  differ-moved : (xs : List Located) → list_any (λ x. list_any (λ y. not (same_target x y)) (map (moved r) xs)) (map (moved r) xs) ≡ list_any (λ x. list_any (λ y. not (same_target x y)) xs) xs
  differ-moved xs = any-map (λ x. list_any (λ y. not (same_target x y)) (map (moved r) xs)) (moved r) xs
      ∙ any-same (λ x. list_any (λ y. not (same_target x y)) (map (moved r) xs)) (λ x. list_any (λ y. not (same_target x y)) xs) (λ x. any-map (λ y. not (same_target x y)) (moved r) xs) xs

  -- each row of the table
  pub breaks-moved : (es : List Located) (e : Located) (k : Rule) → breaks_link (asks (map (moved r) es)) (moved r e) k ≡ breaks_link (asks es) e k
  breaks-moved es e rule.L1 = λ i.
      option_map_or (λ id. doubled-moved es id i) (id_of e) false
      || option_map_or (λ id. nat_lt 1 (count-moved es (holds_tuple_id id) (holds_tuple_id id) (λ x. refl) i)) (tuple_id_of e) false
  breaks-moved es e rule.L2 = ap (λ b. is_item e && b) (lacks-moved es kind.Context (token_at (codes "contextRef") e))
  breaks-moved es e rule.L3 = ap (λ b. (is_kind kind.NonFraction e || is_kind kind.Fraction e) && b) (lacks-moved es kind.Unit (token_at (codes "unitRef") e))
  breaks-moved es e rule.L4 = misses-moved es is_continuation (λ x. refl) (continued_at e)
  breaks-moved es e rule.L5 = λ i. is_continuation e && option_map_or (λ id. nat_lt 1 (count-moved es (goes_on_at id) (goes_on_at id) (λ x. refl) i)) (id_of e) false
  breaks-moved es e rule.L6 = λ i. is_continuation e && not (nat_lt 0 (count-moved es (is_reached_from (asks (map (moved r) es)) (moved r e)) (is_reached_from (asks es) e) (reached-moved es e) i))
  breaks-moved es e rule.L7 = λ i. nat_lt 0 (count-moved es (is_inside_chain_of (asks (map (moved r) es)) (moved r e)) (is_inside_chain_of (asks es) e) (inside-moved es e) i)
  breaks-moved es e rule.L8 = λ i. is_fact e && (map_or-same (λ id. is_none (one_tuple (asks (map (moved r) es)) id)) (λ id. is_none (one_tuple (asks es) id))
      (λ id. ap is_none (one-moved es (holds_tuple_id id)) ∙ none-map (moved r) (one_tuple (asks es) id)) (tuple_ref_of e) false i
      || of_owner es e is_nil (λ x. refl) i)
  breaks-moved es e rule.L9 = ap (λ n. is_tuple e && (n == deepest)) (ap length (owners-moved es deepest e) ∙ length-map (owners (asks es) deepest e) (moved r))
  breaks-moved es e rule.L10 = ap (λ b. is_fact e && b) (of_owner es e (λ o. not (same_target e o)) (λ x. refl))
  breaks-moved es e rule.L11 = ap (λ b. is_relationship e && b) (lacks-one es is_fact (λ x. refl) (from_ids e))
  breaks-moved es e rule.L12 = λ i. is_fact e && nat_lt 1 (count-moved es (ties (asks (map (moved r) es)) (moved r e)) (ties (asks es) e) (λ f. ap (λ b. is_fact f && b && same_order e f) (siblings-moved es e f)) i)
  breaks-moved es e rule.L13 = ap (λ b. is_fact e && b && is_none (order_of e)) (ap is_some (owner-moved es e) ∙ some-map (moved r) (owner (asks es) e))
  breaks-moved es e rule.L14 = λ i. is_fact e && not (nat_lt 0 (count-moved es (is_schema_for (target_of e)) (is_schema_for (target_of e)) (λ x. refl) i))
  breaks-moved es e rule.L15 = λ i. is_relationship e && (lacks-one es is_end (λ x. refl) (to_ids e) i
      || any-named es is_fact (λ x. refl) (to_ids e) i && any-named es is_footnote (λ x. refl) (to_ids e) i)
  breaks-moved es e rule.L16 = λ i. is_relationship e && any-named es is_fact (λ x. refl) (to_ids e) i
      && (ap (λ xs. list_any (λ x. list_any (λ y. not (same_target x y)) xs) xs) (named-moved es is_fact (λ x. refl) (from_ids e ++ to_ids e)) ∙ differ-moved (named_by is_fact (asks es) (from_ids e ++ to_ids e))) i
  breaks-moved es e k = refl

  owned-moved : (es : List Located) (t f : Located) → is_owned_by (asks (map (moved r) es)) (moved r t) (moved r f) ≡ is_owned_by (asks es) t f
  owned-moved es t f = ap (λ b. is_fact f && b)
      (ap (λ o. option_map_or (same_place (moved r t)) o false) (owner-moved es f) ∙ map_or-map (same_place (moved r t)) (moved r) (owner (asks es) f) false
      ∙ map_or-same (λ y. same_place (moved r t) (moved r y)) (same_place t) (λ y. ap (λ b. b && (offset_of t == offset_of y)) (apart t.page y.page)) (owner (asks es) f) false)

  -- members keep their order: it doesn't go by pages
  pub members-moved : (es : List Located) (t : Located) → members (map (moved r) es) (moved r t) ≡ map (moved r) (members es t)
  members-moved es t =
      ap (sorted (on order_of order_cmp)) (sym (map-filter (moved r) (is_owned_by (asks (map (moved r) es)) (moved r t)) es)
      ∙ ap (map (moved r)) (filter-same (λ f. is_owned_by (asks (map (moved r) es)) (moved r t) (moved r f)) (is_owned_by (asks es) t) (owned-moved es t) es))
      ∙ sorted-map (on order_of order_cmp) (on order_of order_cmp) (moved r) (λ x y. refl) (filter (is_owned_by (asks es) t) es)

  module _ (items others : Located → Item) (same : (e : Located) → others (moved r e) ≡ items e) where
    fact-by : (b : Bool) (w v : Located → Facts) (e : Located) → w (moved r e) ≡ v e → fact_by b others w (moved r e) ≡ fact_by b items v e
    fact-by true w v e h = λ i rest. tuple (fact_name e) (id_of e) (is_nil e) (h i) rest
    fact-by false w v e h = λ i rest. item (same e i) rest

    within-moved : (es : List Located) (n : ℕ) (t : Located) → within others (map (moved r) es) n (moved r t) ≡ within items es n t
    within-moved es zero t = refl
    within-moved es (suc n) t =
        ap (λ ms. joined (map (λ e. fact_by (is_tuple e) others (within others (map (moved r) es) n) e) ms)) (members-moved es t)
        ∙ ap joined (map-twice (λ e. fact_by (is_tuple e) others (within others (map (moved r) es) n) e) (moved r) (members es t)
        ∙ map-same _ (λ e. fact_by (is_tuple e) items (within items es n) e)
        (λ e. fact-by (is_tuple e) (within others (map (moved r) es) n) (within items es n) e (within-moved es n e)) (members es t))

    pub fact-moved : (es : List Located) (e : Located) → fact others (map (moved r) es) (moved r e) ≡ fact items es e
    fact-moved es e = fact-by (is_tuple e) (within others (map (moved r) es) deepest) (within items es deepest) e (within-moved es deepest e)
