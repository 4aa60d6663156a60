-- Elements with one id that is not doubled: they are of one kind, and the first speaks for all.
use Rattle.std.proofs.Common.{◌≡◌, ◌∙◌, Bool, true, false, cond, not, ◌&&◌, ◌||◌, ℕ, List, [], ◌∷◌, length, refl, sym, ap, subst, inl, inr, Option, Some, None, nat_lt}
use Rattle.std.specs.List.{Contains, filter}
use Rattle.ix_base.specs.declared.kind.Kind.{Kind}
use Rattle.ix_base.specs.declared.kind.Kind.TheVariants as kind
use Rattle.ix_base.specs.Alike.{alike, alike_as}
use Rattle.ix_base.specs.Asks.{asks, are_many, are_some, first_of, if_such}
use Rattle.ix_base.specs.Ids.{agree, are_doubled, holders, holds_id, id_of, is_part, speaker, stands_for}
use Rattle.ix_base.specs.Kinds.{kind_of, same_kind}
use Rattle.ix_base.specs.LocatedElements.{Located, is_kind, is_text}
use Rattle.ix_base.specs.Trees.{Tree}
use Rattle.std.proofs.lemmas.Slice.Eq.{bytes_eq-Decides}
use Rattle.ix_base.proofs.OnceLemmas.{Contains-nil, Contains-first, Contains-cases, Contains-filter, Contains-from_filter}
use Rattle.id_table.proofs.AgreeLaws.{agree-alike, many-two}

kinds-same : (k l : Kind) (s t : Tree) → alike_as k l s t ≡ true → (k ≡ l) × ((same_kind k kind.Context || same_kind k kind.Unit) ≡ true)
kinds-same kind.Context kind.Context s t h = (refl, refl)
kinds-same kind.Unit kind.Unit s t h = (refl, refl)
kinds-same k l s t h = absurd (let z : false ≡ true = h in cc)

alike-kinds : (x y : Located) → alike x y ≡ true → (kind_of x.placed ≡ kind_of y.placed) × (is_part x ≡ true)
unfolding alike
alike-kinds x y h = kinds-same (kind_of x.placed) (kind_of y.placed) x.placed.tree y.placed.tree h

not-false : (b : Bool) → not b ≡ false → b ≡ true
not-false true h = refl
not-false false h = absurd (let z : true ≡ false = h in cc)

many-agree : (m g : Bool) → m ≡ true → (m && not g) ≡ false → g ≡ true
many-agree true g e h = not-false g h
many-agree false g e h = absurd (let z : false ≡ true = e in cc)

module _ (es : List Located) (id : List ℕ) (single : are_doubled (asks es) id ≡ false) where
  -- of several each is like each
  pub several-alike : are_many (asks es) (holds_id id) ≡ true → (x y : Located) → Contains (holders es id) x → Contains (holders es id) y → alike x y ≡ true
  several-alike many x y cx cy =
      let p = Contains-from_filter (holds_id id) es x cx in
      let q = Contains-from_filter (holds_id id) es y cy in
      agree-alike es id (many-agree (are_many (asks es) (holds_id id)) (agree (asks es) id) many single) x y p.0 q.0 p.1 q.1

  -- and a context or a unit
  pub several-parts : are_many (asks es) (holds_id id) ≡ true → (x : Located) → Contains (holders es id) x → is_part x ≡ true
  several-parts many x c = (alike-kinds x x (several-alike many x x c c)).1

  sole-is : (z w : Located) (hs : List Located) → hs ≡ z ∷ [] → Contains hs w → z ≡ w
  sole-is z w hs e c = elim (Contains-cases z [] w (subst (λ l. Contains l w) e c)) [
    | inl s ↦ s
    | inr n ↦ absurd (Contains-nil w n)
  ]

  -- all are of one kind
  pub kinds-one : (x y : Located) → Contains (holders es id) x → Contains (holders es id) y → kind_of x.placed ≡ kind_of y.placed
  kinds-one x y cx cy = by (holders es id) refl
    where
      by : (hs : List Located) → holders es id ≡ hs → kind_of x.placed ≡ kind_of y.placed
      by [] e = absurd (Contains-nil x (subst (λ l. Contains l x) e cx))
      by (z ∷ []) e = ap (λ (w : Located). kind_of w.placed) (sym (sole-is z x (holders es id) e cx) ∙ sole-is z y (holders es id) e cy)
      by (z ∷ w ∷ ws) e =
          let many : are_many (asks es) (holds_id id) ≡ true = ap (λ l. nat_lt 1 (length l)) e ∙ many-two (length ws) in
          (alike-kinds x y (several-alike many x y cx cy)).0

-- The one that speaks for an id, of a kind.

abbrev pub speaker_such : Kind → List Located → List ℕ → Option Located
speaker_such k es id = if_such (is_kind k) (speaker es id)

text-of : (id : List ℕ) (o : Option (List ℕ)) → is_text id o ≡ true → o ≡ Some id
text-of id None h = absurd (let z : false ≡ true = h in cc)
text-of id (Some t) h = ap Some (sym ((bytes_eq-Decides id t).0 h))

module _ (es : List Located) (id : List ℕ) where
  -- an id that is doubled has no speaker, and the speaker is one of those that have it
  pub speaker-is : (y : Located) → speaker es id ≡ Some y → (are_doubled (asks es) id ≡ false) × Contains (holders es id) y
  speaker-is y h = by (are_doubled (asks es) id) refl (holders es id) refl h
    where
      by : (b : Bool) → are_doubled (asks es) id ≡ b → (hs : List Located) → holders es id ≡ hs → cond b None (first_of hs) ≡ Some y
          → (are_doubled (asks es) id ≡ false) × Contains (holders es id) y
      by true e hs f g = absurd (let z : None ≡ Some y = g in cc)
      by false e [] f g = absurd (let z : None ≡ Some y = g in cc)
      by false e (x ∷ hs) f g =
          let same : x ≡ y = (let z : Some x ≡ Some y = g in cc) in
          (e, subst (λ z. Contains (holders es id) z) same (subst (λ l. Contains l x) (sym f) (Contains-first x hs)))

  -- without a speaker no element has the id, where it is not doubled
  pub speaker-none : speaker es id ≡ None → are_doubled (asks es) id ≡ false → holders es id ≡ []
  speaker-none h d = by (holders es id) (sym (ap (λ b. cond b None (first_of (holders es id))) d) ∙ h)
    where
      by : (hs : List Located) → first_of hs ≡ None → hs ≡ []
      by [] g = refl
      by (x ∷ hs) g = absurd (let z : Some x ≡ None = g in cc)

  such-of : (k : Kind) (o : Option Located) (x : Located) → if_such (is_kind k) o ≡ Some x → (o ≡ Some x) × (is_kind k x ≡ true)
  such-of k None x h = absurd (let z : None ≡ Some x = h in cc)
  such-of k (Some y) x h = by (is_kind k y) refl h
    where
      by : (b : Bool) → is_kind k y ≡ b → cond b (Some y) None ≡ Some x → (Some y ≡ Some x) × (is_kind k x ≡ true)
      by true e g = let same : y ≡ x = (let z : Some y ≡ Some x = g in cc) in (g, ap (is_kind k) (sym same) ∙ e)
      by false e g = absurd (let z : None ≡ Some x = g in cc)

  pub speaker-parts : (k : Kind) (x : Located) → speaker_such k es id ≡ Some x → Contains es x × (id_of x ≡ Some id) × (is_kind k x ≡ true)
  speaker-parts k x h =
      let s = such-of k (speaker es id) x h in
      let c = (speaker-is x s.0).1 in
      let from = Contains-from_filter (holds_id id) es x c in
      (from.0, text-of id (id_of x) from.1, s.1)

  and-both : (a b : Bool) → (a && b) ≡ true → (a ≡ true) × (b ≡ true)
  and-both true b h = (refl, h)
  and-both false b h = absurd (let z : false ≡ true = h in cc)

  not-true : (b : Bool) → not b ≡ true → b ≡ false
  not-true false h = refl
  not-true true h = absurd (let z : false ≡ true = h in cc)

  -- where an element of a kind stands for the id, one of the kind speaks for it
  pub stands-speaker : (k : Kind) → stands_for k (asks es) id ≡ true → (x : Located) × (speaker_such k es id ≡ Some x)
  stands-speaker k h =
      let p = and-both (are_some (asks es) (λ x. holds_id id x && is_kind k x)) (not (are_doubled (asks es) id)) h in
      let d = not-true (are_doubled (asks es) id) p.1 in
      first d (filter (λ x. holds_id id x && is_kind k x) es) refl p.0
    where
      speaks : are_doubled (asks es) id ≡ false → (x : Located) → Contains (holders es id) x → is_kind k x ≡ true → (hs : List Located) → holders es id ≡ hs → (y : Located) × (speaker_such k es id ≡ Some y)
      speaks d x c kx [] e = absurd (Contains-nil x (subst (λ l. Contains l x) e c))
      speaks d x c kx (y ∷ ys) e =
          let here : Contains (holders es id) y = subst (λ l. Contains l y) (sym e) (Contains-first y ys) in
          let ky : is_kind k y ≡ true = ap (λ l. same_kind l k) (kinds-one es id d y x here c) ∙ kx in
          (y, (λ i. if_such (is_kind k) (cond (d i) None (first_of (e i)))) ∙ ap (λ b. cond b (Some y) None) ky)

      first : are_doubled (asks es) id ≡ false → (xs : List Located) → xs ≡ filter (λ x. holds_id id x && is_kind k x) es → nat_lt 0 (length xs) ≡ true
          → (x : Located) × (speaker_such k es id ≡ Some x)
      first d [] e n = absurd (let z : false ≡ true = n in cc)
      first d (x ∷ xs) e n =
          let from = Contains-from_filter (λ x. holds_id id x && is_kind k x) es x (subst (λ l. Contains l x) e (Contains-first x xs)) in
          let both = and-both (holds_id id x) (is_kind k x) from.1 in
          speaks d x (Contains-filter (holds_id id) es x from.0 both.0) both.1 (holders es id) refl
