-- Members of lists, and of a map's entries when one is put in.
use Rattle.std.proofs.Common.{◌≡◌, ◌∙◌, ℕ, ◌<◌, List, [], ◌∷◌, ◌++◌, length, map, refl, sym, ap, subst, inl, inr}
use Rattle.std.specs.BTreeMap.{insert_entry}
use Rattle.std.specs.List.{Contains}
use Rattle.std.specs.Ordering.{match_ordering, nat_cmp}
use Rattle.std.specs.declared.cmp.Ordering.{Ordering}
use Rattle.std.specs.declared.cmp.Ordering.TheVariants.{Less, Equal, Greater}
use Rattle.std.proofs.Math.ListN.{get_or-map}
use Rattle.std.proofs.lemmas.List.{length-map}
use Rattle.std.proofs.lemmas.List.Elements.{Contains-append_cases, Contains-append_left, Contains-append_right}
use Rattle.std.proofs.lemmas.Map.Lookups.{exact_unsigned}
use Rattle.ix_base.specs.Once.{SameMembers}
use Rattle.ix_base.proofs.OnceLemmas.{Contains-cases, Contains-first, Contains-later, Contains-nil, Contains-same}

pub members-same : {X : Type 0} (xs ys : List X) → xs ≡ ys → SameMembers xs ys
members-same xs ys e = record { there = λ x h. subst (λ l. Contains l x) e h; back = λ x h. subst (λ l. Contains l x) (sym e) h }

pub members-cons : {X : Type 0} (y : X) (xs ys : List X) → SameMembers xs ys → SameMembers (y ∷ xs) (y ∷ ys)
members-cons {X} y xs ys m = record { there = one xs ys m.there; back = one ys xs m.back } where
  one : (xs ys : List X) → ((x : X) → Contains xs x → Contains ys x) → (x : X) → Contains (y ∷ xs) x → Contains (y ∷ ys) x
  one xs ys f x h = elim (Contains-cases y xs x h) [
    | inl e ↦ Contains-same y ys x e
    | inr k ↦ Contains-later y ys x (f x k)
  ]

-- what stands at the end stands in front, too
pub members-last : {X : Type 0} (y : X) (xs : List X) → SameMembers (y ∷ xs) (xs ++ y ∷ [])
members-last y xs = record {
  there = λ x h. elim (Contains-cases y xs x h) [
    | inl e ↦ Contains-append_right xs (y ∷ []) x (Contains-same y [] x e)
    | inr k ↦ Contains-append_left xs (y ∷ []) x k
  ];
  back = λ x h. elim (Contains-append_cases xs (y ∷ []) x h) [
    | inl k ↦ Contains-later y xs x k
    | inr k ↦ elim (Contains-cases y [] x k) [
      | inl e ↦ Contains-same y xs x e
      | inr none ↦ absurd (Contains-nil x none)
    ]
  ];
}

pub members-append : {X : Type 0} (xs ys zs : List X) → SameMembers xs ys → SameMembers (xs ++ zs) (ys ++ zs)
members-append {X} xs ys zs m = record { there = one xs ys m.there; back = one ys xs m.back } where
  one : (xs ys : List X) → ((x : X) → Contains xs x → Contains ys x) → (x : X) → Contains (xs ++ zs) x → Contains (ys ++ zs) x
  one xs ys f x h = elim (Contains-append_cases xs zs x h) [
    | inl k ↦ Contains-append_left ys zs x (f x k)
    | inr k ↦ Contains-append_right ys zs x k
  ]

-- what is there already
members-twice : {Y : Type 0} (a b : Y) (ys : List Y) (c : Y) → a ≡ b → b ≡ c → SameMembers (a ∷ ys) (b ∷ (ys ++ c ∷ []))
members-twice a b ys c p q = record {
  there = λ y h. elim (Contains-cases a ys y h) [
    | inl e ↦ Contains-same b (ys ++ c ∷ []) y (sym p ∙ e)
    | inr k ↦ Contains-later b (ys ++ c ∷ []) y (Contains-append_left ys (c ∷ []) y k)
  ];
  back = λ y h. elim (Contains-cases b (ys ++ c ∷ []) y h) [
    | inl e ↦ Contains-same a ys y (p ∙ e)
    | inr k ↦ elim (Contains-append_cases ys (c ∷ []) y k) [
      | inl old ↦ Contains-later a ys y old
      | inr last ↦ elim (Contains-cases c [] y last) [
        | inl e ↦ Contains-same a ys y (p ∙ q ∙ e)
        | inr none ↦ absurd (Contains-nil y none)
      ]
    ]
  ];
}

-- images
pub Contains-map : {X Y : Type 0} (f : X → Y) (xs : List X) (x : X) → Contains xs x → Contains (map f xs) (f x)
Contains-map f xs x h =
    let less : h.0 < length xs = h.1 in
    (h.0, subst (λ n. h.0 < n) (sym (length-map xs f)) less, get_or-map f xs h.0 x ∙ ap f h.2)

pub Contains-from_map : {X Y : Type 0} (f : X → Y) (xs : List X) (y : Y) → Contains (map f xs) y → (x : X) × Contains xs x × (f x ≡ y)
Contains-from_map f [] y h = absurd (Contains-nil y h)
Contains-from_map f (x ∷ xs) y h = elim (Contains-cases (f x) (map f xs) y h) [
  | inl e ↦ (x, Contains-first x xs, e)
  | inr k ↦ let z = Contains-from_map f xs y k in (z.0, Contains-later x xs z.0 z.1, z.2)
]

pub members-map : {X Y : Type 0} (f : X → Y) (xs ys : List X) → SameMembers xs ys → SameMembers (map f xs) (map f ys)
members-map {X} {Y} f xs ys m = record { there = one xs ys m.there; back = one ys xs m.back } where
  one : (xs ys : List X) → ((x : X) → Contains xs x → Contains ys x) → (y : Y) → Contains (map f xs) y → Contains (map f ys) y
  one xs ys g y h =
      let z = Contains-from_map f xs y h in
      subst (λ w. Contains (map f ys) w) z.2 (Contains-map f ys z.0 (g z.0 z.1))

-- An entry that is put in is gained, where f can't tell it from the one that had its key.
module _ {X Y : Type 0} (f : ℕ × X → Y) (n : ℕ) (v : X) where
  abbrev pub Agrees : List (ℕ × X) → Type 0
  Agrees es = (e : ℕ × X) → Contains es e → e.0 ≡ n → f e ≡ f (n, v)

  by_order : (r : Ordering) (e : ℕ × X) (es put : List (ℕ × X)) → nat_cmp n e.0 ≡ r → (e.0 ≡ n → f e ≡ f (n, v))
      → SameMembers (map f put) (map f es ++ f (n, v) ∷ [])
      → SameMembers (map f (match_ordering r ((n, v) ∷ e ∷ es) ((e.0, v) ∷ es) (e ∷ put))) (f e ∷ (map f es ++ f (n, v) ∷ []))
  by_order Less e es put o same m = members-last (f (n, v)) (f e ∷ map f es)
  by_order Equal e es put o same m =
      let key : n ≡ e.0 = exact_unsigned n e.0 o in
      let now : f (e.0, v) ≡ f e = ap (λ k. f (k, v)) (sym key) ∙ sym (same (sym key)) in
      members-twice (f (e.0, v)) (f e) (map f es) (f (n, v)) now (same (sym key))
  by_order Greater e es put o same m = members-cons (f e) (map f put) (map f es ++ f (n, v) ∷ []) m

  pub members-insert : (es : List (ℕ × X)) → Agrees es → SameMembers (map f (insert_entry nat_cmp es n v)) (map f es ++ f (n, v) ∷ [])
  members-insert [] same = members-same (f (n, v) ∷ []) (f (n, v) ∷ []) refl
  members-insert (e ∷ es) same =
      by_order (nat_cmp n e.0) e es (insert_entry nat_cmp es n v) refl (same e (Contains-first e es))
      (members-insert es (λ d h. same d (Contains-later e es d h)))
