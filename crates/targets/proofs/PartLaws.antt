-- The contexts and the units of a content: those that its items name, each once.
use Rattle.std.proofs.Common.{◌≡◌, ◌∙◌, ap, sym, subst, refl, ℕ, ◌+◌, ◌≤◌, Bool, true, false, List, [], ◌∷◌, map, Option, Some, None, arith, ⊎_elim}
use Rattle.std.specs.Prelude.{bytes_eq, option_and_then}
use Rattle.std.specs.List.{AllByRecursion, Contains, filter, filter_map, flat_map}
use Rattle.std.specs.List.Sorted.{IsStrictlySortedBy}
use Rattle.std.specs.Option.{option_map_or}
use Rattle.std.specs.Ordering.{ordering_reverse}
use Rattle.std.specs.declared.cmp.Ordering.TheVariants.{Less, Greater}
use Rattle.std.proofs.lemmas.Bool.{and_parts}
use Rattle.std.proofs.lemmas.Cmp.{nat_list_cmp_total}
use Rattle.std.proofs.lemmas.Slice.Eq.{bytes_eq-Decides}
use Rattle.continuations.proofs.Walking.{some-inj}
use Rattle.ix_base.specs.declared.content.Content.{Content}
use Rattle.ix_base.specs.declared.content.Item.{Item}
use Rattle.ix_base.specs.declared.kind.Kind.{Kind}
use Rattle.ix_base.specs.Asks.{asks}
use Rattle.ix_base.specs.Facts.{facts_of}
use Rattle.ix_base.specs.Ids.{holds_id, id_of, one_such, speaker}
use Rattle.ix_base.specs.LinkRules.{target_of}
use Rattle.ix_base.specs.LocatedElements.{Located, is_item, is_kind, is_text}
use Rattle.ix_base.specs.NcName.{is_ncname}
use Rattle.ix_base.specs.SortedLists.{text_cmp}
use Rattle.ix_base.proofs.OnceLemmas.{Contains-cases, Contains-filter, Contains-first, Contains-from_filter, Contains-nil, in_order-members, in_order-sorted}
use Rattle.ix_base.proofs.OnceOrdered.{same_text}
use Rattle.instance_lines.specs.Holdings.{items_in}
use Rattle.instance_lines.specs.Lists.{of_option}
use Rattle.targets.specs.ValidSets.{IsClean}
use Rattle.target_contents.specs.Contents.{IsContent, SaysItem, ids_named, is_item_of}
use Rattle.target_contents.specs.PageSet.{PageSet, base_at, elements}
use Rattle.targets.proofs.FormLaws.{of-text, such-parts, text-of}
use Rattle.targets.proofs.HolderLaws.{speaker-parts, speaker_such}
use Rattle.target_contents.proofs.MemberLaws.{from-flat, from-given, from-map, in-flat, in-given, in-map-as}
use Rattle.target_contents.proofs.SaidLaws.{said as said_by}
use Rattle.targets.proofs.SumLaws.{item-back, item-there}
use Rattle.targets.proofs.TotalLaws.{total, total-given, total-has, total-less, total-some, when, when-has, when-most}

in-option : (id : List ℕ) (o : Option (List ℕ)) → o ≡ Some id → Contains (of_option o) id
in-option id o e = subst (λ r. Contains (of_option r) id) (sym e) (Contains-first id [])

from-option : (id : List ℕ) (o : Option (List ℕ)) → Contains (of_option o) id → o ≡ Some id
from-option id None h = absurd (Contains-nil id h)
from-option id (Some x) h = ⊎_elim (λ (e : x ≡ id). ap Some e) (λ k. absurd (Contains-nil id k)) (Contains-cases x [] id h)

-- what is found by an id holds it
pub one-holds : (p : Located → Bool) (es : List Located) (t : List ℕ) (x : Located) → one_such p (asks es) t ≡ Some x
    → 1 ≤ total (λ e. when (p e) (when (holds_id t e) 1)) es
one-holds p es t x e =
    let such = such-parts p es t x e in
    let w : Located → ℕ = λ y. when (p y) (when (holds_id t y) 1) in
    let here : w x ≡ 1 = ap (λ b. when b (when (holds_id t x) 1)) such.2 ∙ ap (λ b. when b 1) (of-text t (id_of x) such.1) in
    let some : w x ≤ total w es = total-some w es x such.0 in
    omega arith

-- A weight of one text, in texts of which each stands once.

not-less : (t x z : List ℕ) → t ≡ x → text_cmp x z ≡ Less → bytes_eq t z ≡ false
not-less t x z same less = by (bytes_eq t z) refl
  where
    by : (b : Bool) → bytes_eq t z ≡ b → bytes_eq t z ≡ false
    by true e =
        let again : x ≡ z = sym same ∙ (bytes_eq-Decides t z).0 e in
        let self : text_cmp z z ≡ Less = subst (λ w. text_cmp w z ≡ Less) again less in
        let other : text_cmp z z ≡ ordering_reverse (text_cmp z z) = nat_list_cmp_total.antisymm z z in
        let false_one : Less ≡ Greater = sym self ∙ other ∙ ap ordering_reverse self in
        cc
    by false e = e

rest-none : (t x : List ℕ) (n : ℕ) (xs : List (List ℕ)) → t ≡ x → AllByRecursion (λ z. text_cmp x z ≡ Less) xs → total (λ z. when (bytes_eq t z) n) xs ≡ 0
rest-none t x n [] same h = refl
rest-none t x n (z ∷ xs) same h =
    let here : when (bytes_eq t z) n ≡ 0 = ap (λ b. when b n) (not-less t x z same h.0) in
    let rest : total (λ y. when (bytes_eq t y) n) xs ≡ 0 = rest-none t x n xs same h.1 in
    omega arith

strict-once : (t : List ℕ) (n : ℕ) (xs : List (List ℕ)) → IsStrictlySortedBy text_cmp xs → total (λ z. when (bytes_eq t z) n) xs ≤ n
unfolding IsStrictlySortedBy
strict-once t n [] s = omega arith
strict-once t n (x ∷ xs) s = by (bytes_eq t x) refl (strict-once t n xs s.1)
  where
    by : (b : Bool) → bytes_eq t x ≡ b → total (λ z. when (bytes_eq t z) n) xs ≤ n → when b n + total (λ z. when (bytes_eq t z) n) xs ≤ n
    by true e later =
        let rest : total (λ z. when (bytes_eq t z) n) xs ≡ 0 = rest-none t x n xs ((bytes_eq-Decides t x).0 e) s.0 in
        omega arith
    by false e later = omega arith

module _ (s : PageSet) (clean : IsClean s) (target : List ℕ) (c : Content) (is : IsContent (base_at s) (elements s) target c)
    {Y : Type 0} (k : Kind) (ref said_ref : Located → Option (List ℕ)) (item_ref : Item → Option (List ℕ)) (form : Located → Option Y) (key : Y → List ℕ)
    (said : (e : Located) (i : Item) → SaysItem (base_at s) (elements s) e i → item_ref i ≡ said_ref e)
    (refers : (e : Located) → Contains (elements s) e → is_item e ≡ true → said_ref e ≡ ref e)
    (named : (e : Located) (id : List ℕ) → Contains (elements s) e → is_item e ≡ true → ref e ≡ Some id
    → (x : Located) × (speaker_such k (elements s) id ≡ Some x))
    (formed : (x : Located) → Contains (elements s) x → is_kind k x ≡ true → (y : Y) × (form x ≡ Some y))
    (keyed : (x : Located) (y : Y) → form x ≡ Some y → (id_of x ≡ Some (key y)) × (is_ncname (key y) ≡ true)) where
  -- what is said of an id
  abbrev part_for : List ℕ → Option Y
  part_for id = said_by k form (speaker (elements s) id)

  -- the parts that the items of the target name
  abbrev parts : List Y
  parts = filter_map part_for (ids_named ref target (elements s))

  abbrev items : List Item
  items = items_in (facts_of c.facts)

  said-of : (o : Option Located) (y : Y) → option_and_then form o ≡ Some y → (x : Located) × (o ≡ Some x) × (form x ≡ Some y)
  said-of None y h = absurd (let z : None ≡ Some y = h in cc)
  said-of (Some x) y h = (x, refl, h)

  part-of : (y : Y) → Contains parts y → (id : List ℕ) × (x : Located) × Contains (ids_named ref target (elements s)) id × (speaker_such k (elements s) id ≡ Some x) × (form x ≡ Some y)
  part-of y h =
      let es = elements s in
      let n = from-given part_for (ids_named ref target es) y h in
      let x = said-of (speaker_such k es n.0) y n.2 in
      (n.0, x.0, n.1, x.1, x.2)

  key-is : (id : List ℕ) (x : Located) (y : Y) → speaker_such k (elements s) id ≡ Some x → form x ≡ Some y → key y ≡ id
  key-is id x y such made =
      some-inj (key y) id (sym (keyed x y made).0 ∙ (speaker-parts (elements s) id k x such).1)

  -- an item names each
  part-named : (y : Y) → Contains parts y → (f : Located) × Contains (elements s) f × (is_item_of target f ≡ true) × (ref f ≡ Some (key y))
  part-named y h =
      let es = elements s in
      let p = part-of y h in
      let listed = (in_order-members same_text (filter_map ref (filter (is_item_of target) es))).back p.0 p.2 in
      let f = from-given ref (filter (is_item_of target) es) p.0 listed in
      let kept = Contains-from_filter (is_item_of target) es f.0 f.1 in
      (f.0, kept.0, kept.1, f.2 ∙ ap Some (sym (key-is p.0 p.1 y p.3 p.4)))

  -- what an item names is there
  named-part : (f : Located) (id : List ℕ) → Contains (elements s) f → is_item_of target f ≡ true → ref f ≡ Some id → (y : Y) × Contains parts y × (key y ≡ id)
  named-part f id at item e =
      let es = elements s in
      let x = named f id at (and_parts (is_item f) (bytes_eq target (target_of f)) item).0 e in
      let such = speaker-parts es id k x.0 x.1 in
      let y = formed x.0 such.0 such.2 in
      let listed = in-given ref (filter (is_item_of target) es) f id (Contains-filter (is_item_of target) es f at item) e in
      let ordered = (in_order-members same_text (filter_map ref (filter (is_item_of target) es))).there id listed in
      (y.0, in-given part_for (ids_named ref target es) id y.0 ordered (ap (option_and_then form) x.1 ∙ y.1), key-is id x.0 y.0 x.1 y.1)

  abbrev weight_of : List ℕ → Item → ℕ
  weight_of id i = when (is_text id (item_ref i)) 1

  says-weight : (id : List ℕ) (e : Located) (i : Item) → SaysItem (base_at s) (elements s) e i → weight_of id i ≡ when (is_text id (said_ref e)) 1
  says-weight id e i h = ap (λ o. when (is_text id o) 1) (said e i h)

  -- the keys of the parts are what items name
  pub used : (id : List ℕ) → Contains (map key parts) id → Contains (flat_map (λ i. of_option (item_ref i)) items) id
  used id h =
      let y = from-map key parts id h in
      let f = part-named y.0 y.1 in
      let item = (and_parts (is_item f.0) (bytes_eq target (target_of f.0)) f.2).0 in
      let text : is_text id (said_ref f.0) ≡ true = of-text id (said_ref f.0) (refers f.0 f.1 item ∙ f.3 ∙ ap Some y.2) in
      let one : when (is_text id (said_ref f.0)) 1 ≡ 1 = ap (λ b. when b 1) text in
      let there : when (is_text id (said_ref f.0)) 1 ≤ total (weight_of id) items =
      item-there s clean target c is (weight_of id) (λ e. when (is_text id (said_ref e)) 1) (says-weight id) f.0 f.1 f.2 in
      let i = total-has (weight_of id) items (omega arith) in
      in-flat (λ j. of_option (item_ref j)) items i.0 id i.1
      (in-option id (item_ref i.0) (text-of id (item_ref i.0) (when-has (is_text id (item_ref i.0)) 1 i.2).0))

  pub there : (id : List ℕ) → Contains (flat_map (λ i. of_option (item_ref i)) items) id → Contains (map key parts) id
  there id h =
      let i = from-flat (λ j. of_option (item_ref j)) items id h in
      let text : is_text id (item_ref i.0) ≡ true = of-text id (item_ref i.0) (from-option id (item_ref i.0) i.2) in
      let one : weight_of id i.0 ≡ 1 = ap (λ b. when b 1) text in
      let some : weight_of id i.0 ≤ total (weight_of id) items = total-some (weight_of id) items i.0 i.1 in
      let f = item-back s clean target c is (weight_of id) (λ e. when (is_text id (said_ref e)) 1) (says-weight id) (omega arith) in
      let item = (and_parts (is_item f.0) (bytes_eq target (target_of f.0)) f.2).0 in
      let names : said_ref f.0 ≡ Some id = text-of id (said_ref f.0) (when-has (is_text id (said_ref f.0)) 1 f.3).0 in
      let y = named-part f.0 id f.1 f.2 (sym (refers f.0 f.1 item) ∙ names) in
      in-map-as key parts y.0 id y.1 y.2

  -- each key is a name
  pub key-name : (y : Y) → Contains parts y → is_ncname (key y) ≡ true
  key-name y h = let p = part-of y h in (keyed p.1 y p.4).1

  -- and stands once, where an element of the kind speaks for it
  abbrev pub has_one : List ℕ → ℕ
  has_one t = option_map_or (λ x. 1) (speaker_such k (elements s) t) 0

  one-part : (t id : List ℕ) (o : Option Located) → speaker_such k (elements s) id ≡ o
      → option_map_or (λ y. when (bytes_eq t (key y)) 1) (option_and_then form o) 0 ≤ when (bytes_eq t id) (has_one t)
  one-part t id None e = omega arith
  one-part t id (Some x) e = by (form x) refl
    where
      by : (o : Option Y) → form x ≡ o → option_map_or (λ y. when (bytes_eq t (key y)) 1) o 0 ≤ when (bytes_eq t id) (has_one t)
      by None f = omega arith
      by (Some y) f = same (bytes_eq t id) refl
        where
          same : (b : Bool) → bytes_eq t id ≡ b → when (bytes_eq t (key y)) 1 ≤ when b (has_one t)
          same true g =
              let is_id : t ≡ id = (bytes_eq-Decides t id).0 g in
              let one : has_one t ≡ 1 = ap (λ q. has_one q) is_id ∙ ap (λ o. option_map_or (λ (z : Located). 1) o 0) e in
              let most : when (bytes_eq t (key y)) 1 ≤ 1 = when-most (bytes_eq t (key y)) 1 in
              omega arith
          same false g =
              let none : when (bytes_eq t (key y)) 1 ≡ 0 = ap (λ b. when b 1) (ap (bytes_eq t) (key-is id x y e f) ∙ g) in
              omega arith

  pub keys-once : (t : List ℕ) → total (λ y. when (bytes_eq t (key y)) 1) parts ≤ has_one t
  keys-once t =
      let es = elements s in
      let ids = ids_named ref target es in
      let v : Y → ℕ = λ y. when (bytes_eq t (key y)) 1 in
      let F : List ℕ → ℕ = λ id. option_map_or v (part_for id) 0 in
      let sums : total v parts ≡ total F ids = total-given v part_for ids in
      let each : total F ids ≤ total (λ id. when (bytes_eq t id) (has_one t)) ids =
      total-less F (λ id. when (bytes_eq t id) (has_one t)) ids (λ id h. one-part t id (speaker_such k es id) refl) in
      let once : total (λ id. when (bytes_eq t id) (has_one t)) ids ≤ has_one t =
      strict-once t (has_one t) ids (in_order-sorted nat_list_cmp_total (filter_map ref (filter (is_item_of target) es))) in
      omega arith
